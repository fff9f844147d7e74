use Prim.Native.Nat.{◌-◌}
use mathlib.Core.Path.{◌≡◌}
use Rattle.text_fields.specs.Fields.{entries}
use Rattle.text_fields.proofs.fields.entries_at.Given as goal

abbrev pub invariant-loop-count : goal.invariant-loop-count
invariant-loop-count l = entries (l.most - l.count) l.s l.next l.count ≡ entries l.most l.s l.at 0
