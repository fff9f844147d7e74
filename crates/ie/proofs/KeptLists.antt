-- Whether a type is in a list, element by element. No answer cites this file any more.
use Prim.Native.Nat.{ℕ, ◌+◌, ◌≤◌, ◌<◌}
use mathlib.Core.Path.{◌≡◌, sym, ◌∙◌}
use mathlib.Core.List.{List}
use mathlib.Core.Bool.{Bool, true, false, not, ◌||◌}
use native.Mathlib.Numerals.{add-one}
use lib.Dec.{eqb}
use lib.ListN.{length, get_or, drop, drop_of_length-le}
use lib.Seq.{drop-cons}
use borrow.Author.Tests.{eq-eqb, ne_eqb}
use Rattle.ie.specs.Ie.{listed}

module _ (t i : ℕ) (zs : List ℕ) {r : Bool} (inv : listed t (drop i zs) ≡ r) where
  pub here : i < length zs → get_or zs i 0 ≡ t → true ≡ r
  unfolding listed
  here h q = sym (rw (drop-cons zs i 0 h, eq-eqb _ _ q)) ∙ inv

  pub not_here : i < length zs → (get_or zs i 0 ≡ t → ⊥) → listed t (drop (i + 1) zs) ≡ r
  unfolding listed
  not_here h q = rw (add-one i) (sym (rw (drop-cons zs i 0 h, ne_eqb _ _ q)) ∙ inv)

  pub at_end : length zs ≤ i → false ≡ r
  unfolding listed
  at_end h = sym (rw (drop_of_length-le zs {i = i} h)) ∙ inv

-- a length, or the list, lets an IE pass
pub not_empty : (n t : ℕ) (zs : List ℕ) → (n ≡ 0 → ⊥) → true ≡ not (eqb n 0) || listed t zs
not_empty n t zs h = rw (ne_eqb n 0 h)

pub by_list : (n t : ℕ) (zs : List ℕ) {r : Bool} → n ≡ 0 → r ≡ listed t zs → r ≡ not (eqb n 0) || listed t zs
by_list n t zs e q = rw (eq-eqb n 0 e) q
