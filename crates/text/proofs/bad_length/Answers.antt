use Rattle.std.proofs.lemmas.List.{take_rest}
use Rattle.text.proofs.Laws.{nothing_bad, bad_behind}
use Rattle.text.proofs.bad_length.Goals as goal

pub returns-then-text-good : goal.returns-then-text-good
returns-then-text-good c = search nothing_bad

pub returns : goal.returns
returns c = bad_behind _ _ _ _ (rw take_rest at c.begun.ensures) c.bad_of-2.ensures
