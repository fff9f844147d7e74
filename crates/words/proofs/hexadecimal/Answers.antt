-- `words::hexadecimal` meets its contract: by whether the text is so many pairs.
use mathlib.Core.Path.{ap}
use mathlib.Core.Bool.{not}
use Rattle.words.proofs.Laws.{hex_bad, hex_good}
use Rattle.words.proofs.hexadecimal.Goals as goal

pub returns-then-not-both : goal.returns-then-not-both
returns-then-not-both c =
    hex_bad _ _ _ _ _ _ c.parse-n.ensures.value c.is_whole.ensures c.both.ensures c.both-2.ensures (ap not c.if-not-both.true)

pub returns : goal.returns
returns c =
    hex_good _ _ _ _ _ _ c.parse-n.ensures.value c.is_whole.ensures c.both.ensures c.both-2.ensures _ _ _ (ap not c.if-not-both.false) c.parse-n.ensures.out_after c.part.ensures c.number.ensures.value
