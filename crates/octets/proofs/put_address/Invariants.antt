-- So many bytes of the address are put.
use Rattle.std.proofs.Common.{◌≡◌, ◌*◌, take}
use Rattle.octets.specs.Octets.{put}
use Rattle.octets.proofs.put_address.Given as goal

abbrev pub invariant-loop-i : goal.invariant-loop-i
invariant-loop-i g l = l.out ≡ put l.initial.out l.at (take l.i l.octets)

abbrev pub invariant-loop-k : goal.invariant-loop-k
invariant-loop-k g l = l.out ≡ put l.initial.out l.at (take (4 * l.k) l.octets)
