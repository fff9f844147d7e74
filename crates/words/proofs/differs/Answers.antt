-- `words::differs` meets its contract.
use mathlib.Core.Path.{ap}
use mathlib.Core.Bool.{not}
use Rattle.words.proofs.Laws.{told}
use Rattle.words.proofs.differs.Goals as goal

pub returns : goal.returns
returns c = ap not (told _ _ _ c.same.ensures)
