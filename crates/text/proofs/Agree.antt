-- Laws of a row: which bytes its ranges have, and how many bytes of a text agree with it.
use mathlib.Core.Path.{◌≡◌, refl, sym, ◌∙◌}
use mathlib.Core.Bool.{Bool, true, false, cond, ◌&&◌, and-false, false≢true}
use mathlib.Core.List.{List, [], ◌∷◌, ◌++◌}
use Prim.Native.Nat.{ℕ, suc, ◌+◌, ◌≤◌, ◌<◌, min, zero-le}
use native.Mathlib.Nat.{le_of_suc-le-suc, not-suc-le-zero}
use native.Mathlib.Omega.{arith}
use borrow.Author.Tests.{le-leb, lt-leb, leb-true}
use lib.Dec.{leb, eqb, eqb-zero-suc, eqb-suc-suc}
use lib.ListN.{length, get_or, take, length-take}
use Rattle.std.specs.Prelude.{take_while, zip}
use Rattle.std.specs.List.{list_all, prefix_len}
use Rattle.text.specs.declared.Bytes.{Bytes}
use Rattle.text.specs.Utf8.{Range, within, agree}
use Rattle.text.specs.Steps.{trail, range_of, ranges, allowed}

-- ---- a range

pub in_range : (r : Range) (b : ℕ) → r.low ≤ b → b ≤ r.high → within r b ≡ true
in_range r b l h = rw (le-leb _ _ l, le-leb _ _ h)

pub below_range : (r : Range) (b : ℕ) → b < r.low → within r b ≡ false
below_range r b l = rw (lt-leb _ _ l)

pub above_range : (r : Range) (b : ℕ) → r.high < b → within r b ≡ false
above_range r b h = rw (lt-leb _ _ h, and-false)

pub range_in : (r : Range) (b : ℕ) → within r b ≡ true → (r.low ≤ b) × (b ≤ r.high)
range_in r b = go (leb r.low b) (leb b r.high) refl refl
  where
    go : (t u : Bool) → leb r.low b ≡ t → leb b r.high ≡ u → t && u ≡ true → (r.low ≤ b) × (b ≤ r.high)
    go true true f g e = (leb-true _ _ f, leb-true _ _ g)
    go true false f g e = absurd (false≢true e)
    go false u f g e = absurd (false≢true e)

-- ---- agree

pub agree_fits : (row : List Range) (s : List ℕ) → (agree row s ≤ length row) × (agree row s ≤ length s)
unfolding agree
agree_fits [] s = (zero-le, zero-le)
agree_fits (r ∷ row) [] = (zero-le, zero-le)
agree_fits (r ∷ row) (b ∷ s) = go (within r b) (agree_fits row s)
  where
    go : (t : Bool) → (agree row s ≤ length row) × (agree row s ≤ length s)
        → (cond t (suc (agree row s)) 0 ≤ suc (length row)) × (cond t (suc (agree row s)) 0 ≤ suc (length s))
    go true h = (omega arith, omega arith)
    go false h = (zero-le, zero-le)

-- A text's first byte does not lie in a row's first range, or it does.
pub agree_out : (r : Range) (row : List Range) (s : List ℕ) → within r (get_or s 0 0) ≡ false → agree (r ∷ row) s ≡ 0
unfolding agree
agree_out r row [] e = refl
agree_out r row (b ∷ s) e = rw e

pub agree_in : (r : Range) (row : List Range) (s : List ℕ) → 0 < length s → within r (get_or s 0 0) ≡ true → 0 < agree (r ∷ row) s
unfolding agree
agree_in r row [] p e = absurd (not-suc-le-zero p)
agree_in r row (b ∷ s) p e = rw e (omega arith)

-- A row's first range has the first byte of what agrees with it.
pub agree_lead : (row : List Range) (s : List ℕ) → 0 < agree row s → within (get_or row 0 trail) (get_or s 0 0) ≡ true
unfolding agree
agree_lead [] s p = absurd (not-suc-le-zero p)
agree_lead (r ∷ row) [] p = absurd (not-suc-le-zero p)
agree_lead (r ∷ row) (b ∷ s) p = go (within r b) refl p
  where
    go : (t : Bool) → within r b ≡ t → 0 < cond t (suc (agree row s)) 0 → within r b ≡ true
    go true e q = e
    go false e q = absurd (not-suc-le-zero q)

-- The beginning u of a text u ++ v agrees with a row as far as the text does.
pub agree_part : (row : List Range) (u v : List ℕ) → agree row u ≡ min (agree row (u ++ v)) (length u)
unfolding agree
agree_part [] u v = omega arith
agree_part (r ∷ row) [] v = omega arith
agree_part (r ∷ row) (b ∷ u) v = go (within r b) (agree_part row u v)
  where
    go : (t : Bool) → agree row u ≡ min (agree row (u ++ v)) (length u)
        → cond t (suc (agree row u)) 0 ≡ min (cond t (suc (agree row (u ++ v))) 0) (suc (length u))
    go true h = omega arith
    go false h = omega arith

-- ---- a row of the code's table

pub agree_counts : (row : List Bytes) (s : List ℕ) → length (take_while allowed (zip row s)) ≡ agree (ranges row) s
unfolding agree
agree_counts [] s = refl
agree_counts (r ∷ row) [] = refl
agree_counts (r ∷ row) (b ∷ s) = go (within (range_of r) b) (agree_counts row s)
  where
    n : ℕ
    n = prefix_len allowed (zip row s)

    go : (t : Bool) → length (take n (zip row s)) ≡ agree (ranges row) s
        → length (take (cond t (1 + n) 0) ((r, b) ∷ zip row s)) ≡ cond t (suc (agree (ranges row) s)) 0
    go true h = omega (arith, length-take (1 + n) ((r, b) ∷ zip row s), length-take n (zip row s), h)
    go false h = refl

pub agree_all : (row : List Bytes) (s : List ℕ) → length row ≤ length s → list_all allowed (zip row s) ≡ eqb (agree (ranges row) s) (length (ranges row))
unfolding agree
agree_all [] s p = refl
agree_all (r ∷ row) [] p = absurd (not-suc-le-zero p)
agree_all (r ∷ row) (b ∷ s) p = go (within (range_of r) b) (agree_all row s (le_of_suc-le-suc p))
  where
    go : (t : Bool) → list_all allowed (zip row s) ≡ eqb (agree (ranges row) s) (length (ranges row))
        → t && list_all allowed (zip row s) ≡ eqb (cond t (suc (agree (ranges row) s)) 0) (suc (length (ranges row)))
    go true h = h ∙ sym (eqb-suc-suc (agree (ranges row) s) (length (ranges row)))
    go false h = sym (eqb-zero-suc (length (ranges row)))
