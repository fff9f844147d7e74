-- Every promise of the libraries is an equation for the result and one for each lent output (tools/promises holds them to
-- that), and so it fixes both.
use mathlib.Core.Path.{◌≡◌, ◌∙◌, sym, refl}
use Rattle.kind.specs.Promise.{Fixes}

-- a reader, a constructor, a setter, a build, a leaf that answers: the result is what the definition gives
pub equation : {A : Type 0} (d : A) → Fixes (λ r. r ≡ d)
equation d a b p q = p ∙ sym q

-- a writer, a leaf that stores: the result, and every byte of the output that it was lent
pub with_output : {A B : Type 0} (d : A) (out : B) → Fixes {A = A × B} (λ c. (c.0 ≡ d) × (c.1 ≡ out))
with_output d out (a, x) (b, y) (p, q) (r, s) = rw (p, q, r, s) refl
