-- `text_fields::fields::field_at` meets its contract: by what is left.
use native.Mathlib.Omega.{arith}
use Rattle.text_fields.proofs.Runs.{absent}
use Rattle.text_fields.proofs.fields.field_at.Goals as goal

pub returns-then-n-lt2 : goal.returns-then-n-lt2
returns-then-n-lt2 c = absent _ _ (omega arith)

pub returns-then-n-at : goal.returns-then-n-at
returns-then-n-at c = absent _ _ (omega arith)
