-- Stores one behind the other, and the number of the first field that can't be. No contract cites this file.
use Prim.Native.Nat.{ℕ, ◌+◌, ◌≤◌, ◌<◌}
use native.Mathlib.Omega.{arith}
use mathlib.Core.Path.{◌≡◌, ap, sym, refl, ◌∙◌}
use mathlib.Core.List.{List, [], ◌∷◌, ◌++◌}
use mathlib.Core.Bool.{Bool, true, false}
use borrow.Author.Tests.{le-leb, lt-leb}
use lib.Dec.{leb}
use lib.ListN.{length, take, drop, length-append}
use Rattle.octets.specs.Octets.{pick, put, big_endian_bytes}
use Rattle.octets.proofs.Laws.{put_not, put_nil, put_behind, length_put, length_big_endian_bytes_law}
use Rattle.text_fields.specs.Fields.{field_of, text_wire, text_meaning}
use Rattle.text_fields.specs.Steps.{behind_put, first_bad, text_bytes, run_bytes}
use Rattle.texts.specs.declared.Text.{Text}
use Rattle.std.specs.Prelude.{Option, None, Some}
use Rattle.text_fields.specs.declared.TextList.{TextList}

-- ---- the number of a field that can't be, and none

pub first_bad_before_law : (before : Option ℕ) (number : ℕ) (good : Bool) → (before ≡ None → ⊥) → before ≡ first_bad before good number
unfolding first_bad
first_bad_before_law None number good h = absurd (h refl)
first_bad_before_law (Some k) number good h = refl

module _ (before : Option ℕ) (number : ℕ) (good b : Bool) (h : before ≡ None) (e : b ≡ good) where
  pub first_bad_good_law : b ≡ true → None ≡ first_bad before good number
  unfolding first_bad
  first_bad_good_law k = rw (h, ← e, k)

  pub first_bad_bad_law : b ≡ false → Some number ≡ first_bad before good number
  unfolding first_bad
  first_bad_bad_law k = rw (h, ← e, k)

-- ---- stores

-- what a store of bytes at a place promises: the place behind them, and the output
abbrev pub Stored : List ℕ → ℕ → List ℕ → ℕ → List ℕ → Type 0
Stored d at bs r o = (r ≡ behind_put (length d) at bs) × (o ≡ put d at bs)

module _ (d : List ℕ) (at : ℕ) (bs : List ℕ) where
  no_room : length d < at + length bs → Stored d at bs at d
  no_room h = (rw (lt-leb _ _ h), sym (put_not d at bs h))

  room : at + length bs ≤ length d → at + length bs ≡ behind_put (length d) at bs
  room h = rw (le-leb _ _ h)

pub field_length : (bs : List ℕ) → length (field_of bs) ≡ 2 + length bs
unfolding field_of
field_length bs = length-append (big_endian_bytes 2 (length bs)) bs ∙ ap (λ (n : ℕ). n + length bs) (length_big_endian_bytes_law 2 (length bs))

-- no bytes are put
nothing_put : (d : List ℕ) (at : ℕ) → Stored d at [] at d
nothing_put d at = (go (leb (at + 0) (length d)), sym (put_nil d at))
  where
    go : (t : Bool) → at ≡ pick t (at + 0) at
    go true = omega arith
    go false = refl

-- ---- a text, and a list

pub no_text_law : (t : List ℕ) (x : Option Text) → x ≡ None → text_bytes t x ≡ []
unfolding text_wire text_meaning
no_text_law t x h = rw h

pub some_text : (t : List ℕ) (x : Text) {p : List ℕ} → p ≡ take x.len (drop x.place t) → text_bytes t (Some x) ≡ field_of p
unfolding text_wire text_meaning
some_text t x e = rw e

module _ (d : List ℕ) (at : ℕ) (t : List ℕ) where
  pub none_put : Stored d at (text_bytes t None) at d
  unfolding text_wire text_meaning
  none_put = nothing_put d at

  module _ (x : Text) (p : List ℕ) (e : p ≡ take x.len (drop x.place t)) where
    pub text_not : length d < at + (2 + length p) → Stored d at (text_bytes t (Some x)) at d
    text_not g = rw (some_text t x e) (no_room d at (field_of p) (omega (arith, field_length p)))

    pub text_put : (d1 d2 : List ℕ) → at + (2 + length p) ≤ length d → d1 ≡ put d at (big_endian_bytes 2 (length p)) → d2 ≡ put d1 (at + 2) p
        → Stored d at (text_bytes t (Some x)) (at + 2 + length p) d2
    unfolding field_of
    text_put d1 d2 g q1 q2 =
        let n : at + 2 + length p ≡ at + length (field_of p) = omega (arith, field_length p) in
        rw (some_text t x e) (
          n ∙ room d at (field_of p) (omega (arith, field_length p)),
          q2 ∙ put_behind d d1 at (at + 2) (big_endian_bytes 2 (length p)) p q1 (ap (λ (n : ℕ). at + n) (sym (length_big_endian_bytes_law 2 (length p)))) (omega arith),
        )

  module _ (x : TextList) (p : List ℕ) (e : p ≡ take x.len (drop x.place t)) where
    pub list_none : length p ≡ 0 → Stored d at (run_bytes t x) at d
    list_none h = rw (← e) (go p h)
      where
        go : (p : List ℕ) → length p ≡ 0 → Stored d at p at d
        go [] h = nothing_put d at
        go (b ∷ p) h = absurd (omega arith)

    pub list_not : length d < at + length p → Stored d at (run_bytes t x) at d
    list_not g = rw (← e) (no_room d at p g)

    pub list_put : (o : List ℕ) → at + length p ≤ length d → o ≡ put d at p → Stored d at (run_bytes t x) (at + length p) o
    list_put o g q = rw (← e) (room d at p g, q)

-- ---- one behind the other

-- an output that was written from its start, where xs fits: xs stands there, and the next place is behind it
pub record Wrote (d xs o : List ℕ) (at : ℕ) : Type 0 where
  pub holds : length xs ≤ length d → (o ≡ put d 0 xs) × (at ≡ length xs) × (length o ≡ length d)

-- one more store, as a callee says it
pub more : {d xs o o' : List ℕ} {at at' : ℕ} (ys : List ℕ) → Wrote d xs o at → Stored o at ys at' o' → Wrote d (xs ++ ys) o' at'
more {d} {xs} {o} {o'} {at} {at'} ys w e = record { holds = go }
  where
    go : length (xs ++ ys) ≤ length d → (o' ≡ put d 0 (xs ++ ys)) × (at' ≡ length (xs ++ ys)) × (length o' ≡ length d)
    go h =
        let n = length-append xs ys in
        let (p, q, l) = w.holds (omega arith) in (
          e.1 ∙ put_behind d o 0 at xs ys p (omega arith) (omega arith),
          e.0 ∙ sym (room o at ys (omega arith)) ∙ omega arith,
          ap length e.1 ∙ length_put o at ys ∙ l,
        )

-- the first
pub begun : (d xs : List ℕ) {o : List ℕ} → o ≡ put d 0 xs → Wrote d xs o (length xs)
begun d xs e = record { holds = λ h. (e, refl, ap length e ∙ length_put d 0 xs) }
