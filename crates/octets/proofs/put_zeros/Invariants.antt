-- The zeros that are left, put now, give the same output as putting all at first.
use Rattle.std.proofs.Common.{◌≡◌, ◌-◌, replicate}
use Rattle.octets.specs.Octets.{over}
use Rattle.octets.proofs.put_zeros.Given as goal

abbrev pub invariant-loop-i : goal.invariant-loop-i
invariant-loop-i l = over l.out l.i (replicate (l.end - l.i) 0) ≡ over l.initial.out l.at (replicate (l.end - l.at) 0)
