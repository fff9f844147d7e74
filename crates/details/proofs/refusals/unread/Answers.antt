-- `details::refusals::unread` meets its contract: value by value.
use mathlib.Core.Path.{refl}
use Rattle.details.proofs.Laws.{also}
use Rattle.details.proofs.refusals.unread.Goals as goal

pub returns : goal.returns
returns c =
    rw (← c.values-values.ensures, ← c.number.ensures)
    (also c.first_value.ensures
    (also c.count.ensures
    (also c.count-2.ensures refl)))
