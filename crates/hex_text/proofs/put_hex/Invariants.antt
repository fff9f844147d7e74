use Prim.Native.Nat.{◌+◌, ◌*◌, ◌≤◌}
use mathlib.Core.Path.{◌≡◌}
use lib.ListN.{length, drop}
use Rattle.octets.specs.Octets.{put}
use Rattle.hex_text.specs.Hex.{spelled}
use Rattle.hex_text.proofs.put_hex.Given as goal

abbrev pub invariant-loop-i : goal.invariant-loop-i
invariant-loop-i l = (l.at + 2 * length l.bs ≤ length l.out) × (length l.out ≡ length l.initial.out) × (put l.out (l.at + 2 * l.i) (spelled (drop l.i l.bs)) ≡ put l.initial.out l.at (spelled l.bs))
