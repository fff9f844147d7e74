use Prim.Native.Nat.{◌-◌}
use mathlib.Core.Path.{◌≡◌}
use lib.ListN.{length, drop}
use Rattle.rows.specs.Row.{listed, bracketed}
use Rattle.rows.proofs.Laws.{Left}
use Rattle.rows.proofs.form.list.Given as goal

abbrev pub invariant-loop : goal.invariant-loop
invariant-loop l = (length l.out ≡ length l.initial.out)
    × Left (listed l.mark (l.count - l.counter) (drop l.next l.slice)) l.out l.end (bracketed l.count (drop l.place l.slice)) l.initial.out l.at
