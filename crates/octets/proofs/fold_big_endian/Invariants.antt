use Rattle.std.proofs.Common.{◌≡◌, ◌<◌, ◌^◌, drop}
use Rattle.octets.specs.Octets.{behind}
use Rattle.octets.proofs.fold_big_endian.Given as goal

abbrev pub invariant-loop-b : goal.invariant-loop-b
invariant-loop-b l = (l.x < 256 ^ l.b-index) × (behind l.x (drop l.b-index l.bs) ≡ behind 0 l.bs)
