-- Laws of the walk over a layout's fields, and of cleared payloads. No contract cites this file.
use Prim.Native.Nat.{ℕ, zero, suc, ◌+◌, ◌-◌, ◌^◌, ◌≤◌, ◌<◌}
use native.Mathlib.Omega.{arith}
use native.Mathlib.Nat.{add-zero, add_assoc, lt_of_le_of_lt, mod-eq_of_lt}
use mathlib.Core.Path.{◌≡◌, refl, sym, ap, ◌∙◌}
use mathlib.Core.Bool.{Bool, true, false}
use mathlib.Core.List.{List, [], ◌∷◌}
use lib.Bits.{bit_and, and_le_l, and_mask}
use lib.Dec.{leb}
use lib.ListN.{length, get_or, take}
use borrow.Author.Tests.{le-leb, lt-leb, leb-true}
use Rattle.answer.specs.declared.Answer.TheVariants.{Done, Short, InputTooLong}
use Rattle.octets.specs.Octets.{pick, bit, if_set, Bytes, field}
use Rattle.octets.proofs.Laws.{field_take}
use Rattle.octets.proofs.Masks.{bit_kept, and_and}
use Rattle.kind.specs.Layout.{Wanted, wanted, Layout, Outcome, accepts, refuses, walk, unless_broken, outcome, clear}

-- ---- the walk

-- all the bytes that the fields take
abbrev pub total : List Wanted → ℕ
total [] = 0
total (wanted number sent width ∷ fs) = if_set sent width + total fs

-- where all the fields are there, the walk ends behind them
walk_fits : (n at : ℕ) (fs : List Wanted) → at + total fs ≤ n → walk n at fs ≡ accepts (at + total fs)
unfolding walk
walk_fits n at [] h = rw add-zero
walk_fits n at (wanted number sent width ∷ fs) h =
    rw (le-leb (at + if_set sent width) n (omega arith), ← add_assoc) (walk_fits n (at + if_set sent width) fs (omega arith))

-- a walk that ends has all the fields, within the payload
walk_ends : (n at e : ℕ) (fs : List Wanted) → at ≤ n → walk n at fs ≡ accepts e → (e ≡ at + total fs) × (e ≤ n)
unfolding walk
walk_ends n at e [] h q = let z : at ≡ e = cc in (omega arith, omega arith)
walk_ends n at e (wanted number sent width ∷ fs) h q =
    go (walk_ends n (at + if_set sent width) e fs) (leb (at + if_set sent width) n) refl q
  where
    go : (at + if_set sent width ≤ n → walk n (at + if_set sent width) fs ≡ accepts e → (e ≡ at + if_set sent width + total fs) × (e ≤ n))
        → (t : Bool) → leb (at + if_set sent width) n ≡ t → pick t (walk n (at + if_set sent width) fs) (refuses (Short number (at + if_set sent width) n)) ≡ accepts e → (e ≡ at + (if_set sent width + total fs)) × (e ≤ n)
    go next true p q = let r : (e ≡ at + if_set sent width + total fs) × (e ≤ n) = next (leb-true _ _ p) q in (omega arith, omega arith)
    go next false p q = let z : ◌≡◌ {A = ℕ} 0 1 = cc in absurd (omega arith)

-- no walk refuses with done
walk_refuses : (n at : ℕ) (fs : List Wanted) → walk n at fs ≡ refuses Done → ⊥
unfolding walk
walk_refuses n at [] q = let z : ◌≡◌ {A = ℕ} 0 1 = cc in omega arith
walk_refuses n at (wanted number sent width ∷ fs) q = go (walk_refuses n (at + if_set sent width) fs) (leb (at + if_set sent width) n) q
  where
    go : (walk n (at + if_set sent width) fs ≡ refuses Done → ⊥) → (t : Bool) → pick t (walk n (at + if_set sent width) fs) (refuses (Short number (at + if_set sent width) n)) ≡ refuses Done → ⊥
    go next true q = next q
    go next false q = let z : ◌≡◌ {A = ℕ} 0 1 = cc in omega arith

-- ---- what a layout makes of a payload
module _ (l : Layout) (s : List ℕ) where
  -- where its fields end
  abbrev pub end : ℕ
  end = l.head + total (l.fields (get_or s 0 0))

  pub too_long : 65535 < length s → outcome l s ≡ refuses (InputTooLong (length s))
  unfolding outcome
  too_long h = rw (lt-leb _ _ h)

  module _ (fits : length s ≤ 65535) where
    pub too_short : length s < l.head → outcome l s ≡ refuses (Short 0 l.head (length s))
    unfolding outcome
    too_short h = rw (le-leb _ _ fits, lt-leb _ _ h)

    pub headed : l.head ≤ length s → outcome l s ≡ unless_broken (get_or s 0 0) (l.rule (get_or s 0 0)) (walk (length s) l.head (l.fields (get_or s 0 0)))
    unfolding outcome
    headed h = rw (le-leb _ _ fits, le-leb _ _ h)

    pub whole : l.rule (get_or s 0 0) ≡ 0 → end ≤ length s → outcome l s ≡ accepts end
    unfolding unless_broken
    whole e h = rw (headed (omega arith), e) (walk_fits (length s) l.head (l.fields (get_or s 0 0)) h)

  -- what an accepted payload has
  pub record Whole (n : ℕ) : Type 0 where
    pub fits : length s ≤ 65535
    pub free : l.rule (get_or s 0 0) ≡ 0
    pub ends : n ≡ end
    pub within : n ≤ length s

  unless_broken_accepts_law : (n r : ℕ) → l.rule (get_or s 0 0) ≡ r → length s ≤ 65535 → l.head ≤ length s → unless_broken (get_or s 0 0) r (walk (length s) l.head (l.fields (get_or s 0 0))) ≡ accepts n → Whole n
  unfolding unless_broken
  unless_broken_accepts_law n zero e f h q =
      let (a, b) = walk_ends (length s) l.head n (l.fields (get_or s 0 0)) h q in
      record { fits = f; free = e; ends = a; within = b }
  unless_broken_accepts_law n (suc r) e f h q = let z : ◌≡◌ {A = ℕ} 0 1 = cc in absurd (omega arith)

  unless_broken_refuses_law : (r : ℕ) → unless_broken (get_or s 0 0) r (walk (length s) l.head (l.fields (get_or s 0 0))) ≡ refuses Done → ⊥
  unfolding unless_broken
  unless_broken_refuses_law zero q = walk_refuses (length s) l.head (l.fields (get_or s 0 0)) q
  unless_broken_refuses_law (suc r) q = let z : ◌≡◌ {A = ℕ} 0 1 = cc in omega arith

  abbrev tests : Bool → Bool → Outcome
  tests t u =
      pick t
      (pick u (unless_broken (get_or s 0 0) (l.rule (get_or s 0 0)) (walk (length s) l.head (l.fields (get_or s 0 0)))) (refuses (Short 0 l.head (length s))))
      (refuses (InputTooLong (length s)))

  pub accepted : (n : ℕ) → outcome l s ≡ accepts n → Whole n
  unfolding outcome
  accepted n q = go (leb (length s) 65535) (leb l.head (length s)) refl refl q
    where
      go : (t u : Bool) → leb (length s) 65535 ≡ t → leb l.head (length s) ≡ u → tests t u ≡ accepts n → Whole n
      go true true p p' q = unless_broken_accepts_law n (l.rule (get_or s 0 0)) refl (leb-true _ _ p) (leb-true _ _ p') q
      go true false p p' q = let z : ◌≡◌ {A = ℕ} 0 1 = cc in absurd (omega arith)
      go false u p p' q = let z : ◌≡◌ {A = ℕ} 0 1 = cc in absurd (omega arith)

  -- no layout refuses with done
  pub never_done : outcome l s ≡ refuses Done → ⊥
  unfolding outcome
  never_done q = go (leb (length s) 65535) (leb l.head (length s)) q
    where
      go : (t u : Bool) → tests t u ≡ refuses Done → ⊥
      go true true q = unless_broken_refuses_law (l.rule (get_or s 0 0)) q
      go true false q = let z : ◌≡◌ {A = ℕ} 0 1 = cc in omega arith
      go false u q = let z : ◌≡◌ {A = ℕ} 0 1 = cc in omega arith

-- ---- cleared payloads
pub length_clear : (ms s : List ℕ) → length (clear ms s) ≡ length s
unfolding clear
length_clear [] s = refl
length_clear (m ∷ ms) [] = refl
length_clear (m ∷ ms) (b ∷ s) = ap suc (length_clear ms s)

pub bytes_clear : (ms s : List ℕ) → Bytes s → Bytes (clear ms s)
unfolding clear
bytes_clear [] s h = h
bytes_clear (m ∷ ms) [] h = tt
bytes_clear (m ∷ ms) (b ∷ s) h = (lt_of_le_of_lt (and_le_l b m) h.0, bytes_clear ms s h.1)

pub clear_clear : (ms s : List ℕ) → clear ms (clear ms s) ≡ clear ms s
unfolding clear
clear_clear [] s = refl
clear_clear (m ∷ ms) [] = refl
clear_clear (m ∷ ms) (b ∷ s) = rw (clear_clear ms s, and_and b m)

-- a first byte that has no bit above the low k is as it was where these are kept
pub clear_low : (k : ℕ) (s : List ℕ) → get_or s 0 0 < 2 ^ k → clear ((2 ^ k - 1) ∷ []) s ≡ s
unfolding clear
clear_low k [] h = refl
clear_low k (b ∷ s) h = ap (λ (x : ℕ). x ∷ s) (and_mask b k ∙ mod-eq_of_lt h)

-- behind the first bytes all stands as it was
pub field_clear : (ms : List ℕ) (at w : ℕ) (s : List ℕ) → length ms ≤ at → field (clear ms s) at w ≡ field s at w
unfolding clear
field_clear [] at w s h = refl
field_clear (m ∷ ms) zero w s h = absurd (omega arith)
field_clear (m ∷ ms) (suc at) w [] h = refl
field_clear (m ∷ ms) (suc at) w (b ∷ s) h = field_clear ms at w s (omega arith)

first_clear : (m : ℕ) (ms : List ℕ) (n : ℕ) (s : List ℕ) → 0 < n → n ≤ length s → get_or (clear (m ∷ ms) (take n s)) 0 0 ≡ bit_and (get_or s 0 0) m
unfolding clear
first_clear m ms zero s h g = absurd (omega arith)
first_clear m ms (suc n) [] h g = absurd (omega arith)
first_clear m ms (suc n) (b ∷ s) h g = refl

-- two payloads of at least n bytes that are equal once cut there and cleared
pub record Alike (ms : List ℕ) (n : ℕ) (s t : List ℕ) : Type 0 where
  pub left : n ≤ length s
  pub right : n ≤ length t
  pub equal : clear ms (take n t) ≡ clear ms (take n s)

module _ {ms : List ℕ} {n : ℕ} {s t : List ℕ} where
  pub alike_field : Alike ms n s t → (at w : ℕ) → length ms ≤ at → at + w ≤ n → field t at w ≡ field s at w
  alike_field a at w h g =
      sym (field_take at w n t g)
      ∙ sym (field_clear ms at w (take n t) h)
      ∙ ap (λ (l : List ℕ). field l at w) a.equal
      ∙ field_clear ms at w (take n s) h
      ∙ field_take at w n s g

  pub alike_bit : {m : ℕ} (j : ℕ) → bit j m ≡ true → Alike (m ∷ ms) n s t → 0 < n → bit j (get_or t 0 0) ≡ bit j (get_or s 0 0)
  alike_bit {m} j p a h =
      sym (bit_kept j (get_or t 0 0) m p)
      ∙ ap (bit j) (sym (first_clear m ms n t h a.right) ∙ ap (λ (l : List ℕ). get_or l 0 0) a.equal ∙ first_clear m ms n s h a.left)
      ∙ bit_kept j (get_or s 0 0) m p
