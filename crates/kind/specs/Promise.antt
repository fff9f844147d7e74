-- What a promise is worth: it fixes a call's outcome where any two outcomes that it permits are equal.
use Rattle.std.specs.Prelude.{◌≡◌}

abbrev pub Fixes : {A : Type 0} → (A → Type 0) → Type 0
Fixes {A = A} P = (a b : A) → P a → P b → a ≡ b
