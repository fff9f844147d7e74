use Prim.Native.Nat.{ℕ, ◌≤◌}
use mathlib.Core.List.{List}
use lib.ListN.{length}
use Rattle.ie.specs.Steps.{HasRows}
use Rattle.ie.proofs.Tables.{Left}
use Rattle.ie.proofs.fill.Given as goal

abbrev pub invariant-loop-row : goal.invariant-loop-row
invariant-loop-row l = (l.at ≤ length l.body) × ((zs : List ℕ) → HasRows zs l.body (length l.initial.rows) → Left zs l.body l.at l.rows l.row-index)
