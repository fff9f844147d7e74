use Prim.Native.Nat.{◌-◌}
use mathlib.Core.Path.{◌≡◌}
use Rattle.text_fields.specs.Fields.{entries}
use Rattle.text_fields.proofs.fields.is_list.Given as goal

abbrev pub invariant-loop : goal.invariant-loop
invariant-loop l = entries (l.count - l.counter) l.texts l.next l.counter ≡ entries l.count l.texts l.place 0
