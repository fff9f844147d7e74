-- `rows::stream::buffer` meets its contract: as many bytes as are made. Counting them one by one would take seconds.
use Prim.Native.Nat.{ℕ}
use mathlib.Core.Path.{refl, sym}
use lib.ListN.{length-replicate}
use Rattle.rows.proofs.stream.buffer.Goals as goal

pub returns : goal.returns
returns c = record { value = refl; value_2 = sym (length-replicate {A = ℕ} 400000 0) }
