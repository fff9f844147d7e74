use Prim.Native.Nat.{◌-◌, ◌≤◌}
use mathlib.Core.Path.{◌≡◌}
use lib.ListN.{length, drop}
use Rattle.rows.specs.Row.{numbered}
use Rattle.rows.proofs.row.Given as goal

abbrev pub invariant-loop : goal.invariant-loop
invariant-loop l = (l.from ≤ length l.words) × (numbered (l.number - l.counter) (drop l.from l.words) ≡ numbered l.number l.words)
