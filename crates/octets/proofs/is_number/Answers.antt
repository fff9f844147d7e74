-- `octets::is_number` meets its contract: by the two tests.
use lib.ListN.{length}
use native.Mathlib.Omega.{arith}
use borrow.Author.Tests.{lt-ltb}
use Rattle.octets.proofs.is_number.Goals as goal

pub returns-then-bs-eq0 : goal.returns-then-bs-eq0
returns-then-bs-eq0 c = rw c.if-bs-eq0.true

pub returns : goal.returns
returns c = rw (lt-ltb 0 (length c.args.bs.now) (omega arith))
