-- `node_id::read_masked` meets its contract: by the length, then by the type under the mask.
use native.Mathlib.Omega.{arith}
use mathlib.Core.Path.{refl}
use Rattle.node_id.proofs.Returns.{masked_too_long, masked_empty, masked_typed}
use Rattle.node_id.proofs.read_masked.Goals as goal

pub returns-then-n-gt65535 : goal.returns-then-n-gt65535
returns-then-n-gt65535 c = masked_too_long _ _ _ (omega arith) refl

pub returns-then-n-lt1 : goal.returns-then-n-lt1
returns-then-n-lt1 c = masked_empty _ _ _ (omega arith) (omega arith) refl

pub returns : goal.returns
returns c = masked_typed _ _ _ (omega arith) (omega arith) c.read_typed.ensures
