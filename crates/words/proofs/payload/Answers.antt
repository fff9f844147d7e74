-- `words::payload` meets its contract: by whether the text is a dash, and by whether it is pairs alone.
use mathlib.Core.Path.{ap}
use mathlib.Core.Bool.{not}
use Rattle.words.proofs.Laws.{payload_dash, payload_bad, payload_good}
use Rattle.words.proofs.payload.Goals as goal

pub returns-then-same-clause-value : goal.returns-then-same-clause-value
returns-then-same-clause-value c = payload_dash _ _ _ _ c.parse-len.ensures.value c.same.ensures c.if-same.true

pub returns-then-not-both-clause-value : goal.returns-then-not-both-clause-value
returns-then-not-both-clause-value c =
    payload_bad _ _ _ _ c.parse-len.ensures.value c.same.ensures _ _ c.if-same.false c.is_whole.ensures c.both.ensures (ap not c.if-not-both.true)

pub returns-clause-value : goal.returns-clause-value
returns-clause-value c =
    payload_good _ _ _ _ c.parse-len.ensures.value c.same.ensures _ _ c.if-same.false c.is_whole.ensures c.both.ensures (ap not c.if-not-both.false)
