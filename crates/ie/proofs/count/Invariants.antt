use Prim.Native.Nat.{◌≤◌, ◌-◌}
use mathlib.Core.Path.{◌≡◌}
use lib.ListN.{length, drop}
use Rattle.ie.specs.Ie.{ies}
use Rattle.ie.specs.Steps.{counted}
use Rattle.ie.proofs.count.Given as goal

abbrev pub invariant-loop-place : goal.invariant-loop-place
invariant-loop-place l = (l.place ≤ length l.body) × (l.rows ≤ l.place) × (counted l.rows (ies l.zero_types l.place (drop l.place l.body)) ≡ counted 0 (ies l.zero_types 0 l.body))

abbrev pub decreases-loop-place : goal.decreases-loop-place
decreases-loop-place l = length l.body - l.place
