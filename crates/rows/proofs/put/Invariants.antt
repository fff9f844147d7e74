use Prim.Native.Nat.{◌≤◌, ◌-◌}
use mathlib.Core.Path.{◌≡◌}
use lib.ListN.{length, drop}
use Rattle.rows.specs.Row.{pieces}
use Rattle.rows.proofs.Laws.{Left}
use Rattle.rows.proofs.put.Given as goal

abbrev pub invariant-loop-at : goal.invariant-loop-at
invariant-loop-at l = (l.from ≤ length l.words)
    × ((l.i ≤ l.from)
    × ((length l.out ≡ length l.initial.out) × Left (pieces (drop l.from l.words) (drop l.i l.values) l.slice) l.out l.end (pieces l.words l.values l.slice) l.initial.out l.at))

abbrev pub decreases-loop-at : goal.decreases-loop-at
decreases-loop-at l = length l.words - l.from
