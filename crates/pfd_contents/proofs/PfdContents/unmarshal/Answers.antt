-- `pfd_contents::PfdContents::unmarshal` meets its contract: by the length, then by the fields.
use native.Mathlib.Omega.{arith}
use mathlib.Core.Path.{ap, ◌∙◌}
use native.Mathlib.Omega.{arith}
use Rattle.pfd_contents.specs.PfdContents.{refused}
use Rattle.pfd_contents.proofs.Returns.{too_long, too_short, enough, as_fields}
use Rattle.pfd_contents.proofs.PfdContents.unmarshal.Goals as goal

pub returns-then-n-gt65535 : goal.returns-then-n-gt65535
returns-then-n-gt65535 c = search too_long

pub returns-then-n-lt2 : goal.returns-then-n-lt2
returns-then-n-lt2 c = search too_short

pub returns-in-Ok : goal.returns-in-Ok
returns-in-Ok c = enough _ _ (omega arith) (omega arith) (as_fields _ _ c.read_fields.ensures c.in-Ok.is)

pub returns-in-Err : goal.returns-in-Err
returns-in-Err c = enough _ _ (omega arith) (omega arith) (c.refused-in-Err.ensures ∙ ap refused c.from.ensures ∙ as_fields _ _ c.read_fields.ensures c.in-Err.is)
