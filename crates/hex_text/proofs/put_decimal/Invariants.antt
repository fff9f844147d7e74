use Prim.Native.Nat.{◌+◌, ◌≤◌}
use mathlib.Core.Path.{◌≡◌}
use lib.ListN.{length}
use Rattle.octets.specs.Octets.{over, put}
use Rattle.hex_text.specs.Hex.{decimal}
use Rattle.hex_text.proofs.Laws.{still}
use Rattle.hex_text.proofs.put_decimal.Given as goal

abbrev pub invariant-loop-i : goal.invariant-loop-i
invariant-loop-i l = (l.i ≡ length (still l.i l.rest)) × (l.at + l.i ≤ length l.out) × (length l.out ≡ length l.initial.out) × (over l.out l.at (still l.i l.rest) ≡ put l.initial.out l.at (decimal l.n))
