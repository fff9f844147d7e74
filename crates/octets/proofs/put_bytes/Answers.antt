-- `octets::put_bytes` meets its contract: by whether the bytes fit.
use mathlib.Core.Path.{sym}
use native.Mathlib.Omega.{arith}
use Rattle.octets.proofs.Laws.{put_not, copy_part}
use Rattle.octets.proofs.put_bytes.Goals as goal

pub returns-then-out-bs : goal.returns-then-out-bs
returns-then-out-bs c = sym (put_not _ _ _ (omega arith))

pub returns-then-out-bs-2 : goal.returns-then-out-bs-2
returns-then-out-bs-2 c = sym (put_not _ _ _ (omega arith))

pub returns : goal.returns
returns c = copy_part _ _ _ _ (omega arith) c.copy.ensures.after
