-- `text_fields::add::entry_end` meets its contract: by the field that stands there.
use native.Mathlib.Omega.{arith}
use Rattle.text_fields.proofs.Runs.{whole_end}
use Rattle.text_fields.proofs.Adding.{entry_is}
use Rattle.text_fields.proofs.add.entry_end.Goals as goal

pub overflow_add-result : goal.overflow_add-result
overflow_add-result c = omega (arith, whole_end _ _ c.field_at.ensures (rw c.in-Ok-Some.field-0-is at c.in-Ok-Some.is))

pub returns-in-Ok-Some : goal.returns-in-Ok-Some
returns-in-Ok-Some c = entry_is _ _ _ _ c.field_at.ensures (rw c.in-Ok-Some.field-0-is at c.in-Ok-Some.is)

pub returns-in-Ok-None : goal.returns-in-Ok-None
returns-in-Ok-None c = entry_is _ _ _ _ c.field_at.ensures (rw c.in-Ok-None.field-0-is at c.in-Ok-None.is)

pub returns-in-Err : goal.returns-in-Err
returns-in-Err c = entry_is _ _ _ _ c.field_at.ensures c.in-Err.is
