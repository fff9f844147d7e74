-- `compose::written::buffer` meets its contract: as many bytes as are made. Counting them one by one would take seconds.
use Prim.Native.Nat.{ℕ}
use mathlib.Core.Path.{sym}
use lib.ListN.{length-replicate}
use Rattle.compose.proofs.written.buffer.Goals as goal

pub returns : goal.returns
returns c = sym (length-replicate {A = ℕ} 65535 0)
