-- `octets::put_byte` meets its contract: by whether the place is there.
use mathlib.Core.Path.{sym}
use native.Mathlib.Omega.{arith}
use Rattle.octets.proofs.Laws.{put_not, put_set}
use Rattle.octets.proofs.put_byte.Goals as goal

pub returns-then-at-out : goal.returns-then-at-out
returns-then-at-out c = put_set _ _ _ (omega arith)

pub returns-else-at-out : goal.returns-else-at-out
returns-else-at-out c = sym (put_not _ _ _ (omega arith))
