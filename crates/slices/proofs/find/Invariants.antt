-- Among the bytes passed there is none, so that what is left of the part has the same place.
use Rattle.std.proofs.Common.{◌≡◌, ◌+◌}
use Rattle.slices.specs.Slices.{slice, index_of}
use Rattle.slices.proofs.find.Given as goal

abbrev pub invariant-loop-at : goal.invariant-loop-at
invariant-loop-at l = l.at + index_of l.b (slice l.at l.to l.s) ≡ l.from + index_of l.b (slice l.from l.to l.s)
