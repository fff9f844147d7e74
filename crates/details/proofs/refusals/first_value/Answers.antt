-- `details::refusals::first_value` meets its contract: by the number.
use Prim.Native.Nat.{ℕ, ◌%◌}
use mathlib.Core.Bool.{Bool, true, false, ◌||◌}
use mathlib.Core.Path.{◌≡◌, sym, ap, ◌∙◌}
use mathlib.Core.List.{List}
use lib.Dec.{eqb}
use Rattle.octets.specs.Octets.{pick}
use Rattle.rows.specs.declared.Value.{Value}
use Rattle.rows.specs.declared.Value.TheVariants.{Count}
use Rattle.rows.specs.Values.{hex_value}
use Rattle.details.specs.Refusals.{first_value}
use Rattle.details.proofs.refusals.first_value.Goals as goal

first : (number x : ℕ) (v : Value) (e : Bool) → e ≡ (eqb number 2 || eqb number 3) → e ≡ true → v ≡ hex_value 1 (x % 256) → v ≡ first_value number x
first number x v e h t q = q ∙ ap (λ (b : Bool). pick b (hex_value 1 (x % 256)) (Count x)) (sym t ∙ h)

others : (number x : ℕ) (v : Value) (e : Bool) → e ≡ (eqb number 2 || eqb number 3) → e ≡ false → v ≡ Count x → v ≡ first_value number x
others number x v e h t q = q ∙ ap (λ (b : Bool). pick b (hex_value 1 (x % 256)) (Count x)) (sym t ∙ h)

pub returns-then-either : goal.returns-then-either
returns-then-either c = search first

pub returns : goal.returns
returns c = search others
