-- `checked` tells whether more bytes could complete a text, and how long the bad sequence is where none could.
use mathlib.Core.Path.{◌≡◌, refl, sym, ap, ◌∙◌}
use mathlib.Core.Bool.{Bool, true, false, cond}
use mathlib.Core.List.{List, [], ◌∷◌, ◌++◌, map, append-nil, append_assoc}
use Prim.Native.Nat.{ℕ, suc, ◌≤◌, ◌<◌, min, max, zero-le, suc-le-suc}
use native.Mathlib.Nat.{le_refl}
use native.Mathlib.Omega.{arith}
use borrow.Author.Rules.{rules}
use borrow.Author.Tests.{leb-true, leb-false, eqb-true, eqb-false, eq-eqb}
use lib.Dec.{leb, eqb}
use lib.ListN.{length, get_or, take, drop, length-append, length-drop, take-append-drop}
use lib.Seq.{take-add, length-take-le}
use Rattle.text.specs.Utf8.{Range, within, rows, agree, seq_len, good_len, best, bad_len, checked}
use Rattle.text.specs.Meaning.{Sequence, WellFormed, Completable, BadSequence}
use Rattle.text.specs.Meaning.Sequence.{end, byte}
use Rattle.text.specs.Meaning.WellFormed.{none, more}
use Rattle.text.proofs.Agree.{range_in, agree_fits, agree_part}
use Rattle.text.proofs.Table.{seq_part}
use Rattle.text.proofs.Laws.{good_step, good_none, good_fits}
use Rattle.text.proofs.Longest.{well_then, longest}
use Rattle.text.proofs.Parts.{good_well, well_good, well_append}

-- ---- the table

-- No range of a row is empty.
Filled : List Range → Type 0
Filled [] = Unit {0}
Filled (r ∷ row) = (r.low ≤ r.high) × Filled row

-- Each row of l has one to four ranges, none of them empty.
Sound : List (List Range) → Type 0
Sound [] = Unit {0}
Sound (row ∷ l) = (0 < length row) × (length row ≤ 4) × Filled row × Sound l

rows_sound : Sound rows
unfolding Sound Filled rows
rows_sound = search rules

-- A text that begins with no whole sequence has at most three bytes of one.
best_small : (l : List (List Range)) (s : List ℕ) → Sound l → seq_len l s ≡ 0 → best l s ≤ 3
unfolding Sound seq_len best
best_small [] s o e = zero-le
best_small (row ∷ l) s o e = go (eqb (agree row s) (length row)) refl (best_small l s o.3) e
  where
    go : (t : Bool) → eqb (agree row s) (length row) ≡ t → (seq_len l s ≡ 0 → best l s ≤ 3)
        → cond t (length row) (seq_len l s) ≡ 0 → max (agree row s) (best l s) ≤ 3
    go true e h z = absurd (omega (arith, o.0))
    go false e h z = omega (arith, eqb-false (agree row s) (length row) e, agree_fits row s, o.1, h z)

-- A whole sequence agrees with its row.
seq_best : (l : List (List Range)) (s : List ℕ) → seq_len l s ≤ best l s
unfolding seq_len best
seq_best [] s = zero-le
seq_best (row ∷ l) s = go (eqb (agree row s) (length row)) refl (seq_best l s)
  where
    go : (t : Bool) → eqb (agree row s) (length row) ≡ t → seq_len l s ≤ best l s → cond t (length row) (seq_len l s) ≤ max (agree row s) (best l s)
    go true e h = omega (arith, eqb-true (agree row s) (length row) e)
    go false e h = omega arith

-- ---- a beginning u of a text u ++ v

best_part : (l : List (List Range)) (u v : List ℕ) → best l u ≡ min (best l (u ++ v)) (length u)
unfolding best
best_part [] u v = omega arith
best_part (row ∷ l) u v = omega (arith, agree_part row u v, best_part l u v)

best_fits : (l : List (List Range)) (s : List ℕ) → best l s ≤ length s
best_fits l s = omega (arith, best_part l s [])

-- ---- a begun sequence can be completed

-- The lowest byte of each range that is left completes what agrees with a row.
lowest : List Range → List ℕ
lowest row = map (λ (r : Range). r.low) row

completed : (row : List Range) (t : List ℕ) → Filled row → agree row t ≡ length t → Sequence row (t ++ lowest (drop (length t) row))
unfolding agree Filled lowest
completed [] [] o e = end
completed [] (b ∷ t) o e = absurd (omega arith)
completed (r ∷ row) [] o e = byte (le_refl r.low) o.0 (completed row [] o.1 (omega (arith, agree_fits row [])))
completed (r ∷ row) (b ∷ t) o e = go (within r b) refl (completed row t o.1) e
  where
    go : (test : Bool) → within r b ≡ test → (agree row t ≡ length t → Sequence row (t ++ lowest (drop (length t) row)))
        → cond test (suc (agree row t)) 0 ≡ suc (length t) → Sequence (r ∷ row) (b ∷ (t ++ lowest (drop (length t) row)))
    go true i h e = byte (range_in r b i).0 (range_in r b i).1 (h (omega arith))
    go false i h e = absurd (omega arith)

-- The row that t begins, and the bytes that it lacks.
record Begun (l : List (List Range)) (t : List ℕ) : Type 0 where
  k : ℕ
  k_lt : k < length l
  rest : List ℕ
  whole : Sequence (get_or l k []) (t ++ rest)

begun_row : (l : List (List Range)) (t : List ℕ) → Sound l → 0 < length t → best l t ≡ length t → Begun l t
unfolding Sound best
begun_row [] t o p e = absurd (omega arith)
begun_row (row ∷ l) t o p e = go (eqb (agree row t) (length t)) refl (begun_row l t o.3 p)
  where
    go : (test : Bool) → eqb (agree row t) (length t) ≡ test → (best l t ≡ length t → Begun l t) → Begun (row ∷ l) t
    go true i h = record { k = 0; k_lt = omega arith; rest = lowest (drop (length t) row); whole = completed row t o.2 (eqb-true _ _ i) }
    go false i h =
        let f = h (omega (arith, eqb-false (agree row t) (length t) i, e)) in
        record { k = suc f.k; k_lt = suc-le-suc f.k_lt; rest = f.rest; whole = f.whole }

begun_completable : (t : List ℕ) → best rows t ≡ length t → Completable t
begun_completable [] e = record { rest = []; whole = none }
begun_completable (b ∷ t) e =
    let f = begun_row rows (b ∷ t) rows_sound (omega arith) e in
    record { rest = f.rest; whole = rw append-nil at (more f.k f.k_lt f.whole none) }

-- ---- what can be completed, and begins with no whole sequence, is a begun one

completable_begun : (t : List ℕ) → Completable t → seq_len rows t ≡ 0 → best rows t ≡ length t
completable_begun t c e = go (leb (seq_len rows (t ++ c.rest)) (length t)) refl
  where
    go : (test : Bool) → leb (seq_len rows (t ++ c.rest)) (length t) ≡ test → best rows t ≡ length t
    -- The completed text begins with no sequence either, so that it is empty.
    go true i =
        let nothing = good_none (t ++ c.rest) (sym (seq_part rows t c.rest (leb-true _ _ i)) ∙ e) in
        omega (arith, nothing, well_good c.whole, length-append t c.rest, best_part rows t c.rest)
    -- The completed text begins with a sequence that ends after t.
    go false i =
        omega (arith, leb-false (seq_len rows (t ++ c.rest)) (length t) i, seq_best rows (t ++ c.rest), best_part rows t c.rest)

-- Of a text that begins with no whole sequence, as many bytes can be completed as agree with a row, and no more.
take_completable : (t : List ℕ) (m : ℕ) → m ≤ best rows t → Completable (take m t)
take_completable t m p =
    let long = length-take-le m t (omega (arith, best_fits rows t)) in
    begun_completable (take m t) (omega (arith, best_part rows (take m t) (drop m t), ap (best rows) (take-append-drop m t), long))

completable_take : (t : List ℕ) (m : ℕ) → seq_len rows t ≡ 0 → m ≤ length t → Completable (take m t) → m ≤ best rows t
completable_take t m e p c =
    let same : take m t ++ drop m t ≡ t = take-append-drop m t in
    let nothing : seq_len rows (take m t) ≡ 0 = seq_part rows (take m t) (drop m t) (rw (same, e) zero-le) ∙ rw (same, e) in
    omega (arith, completable_begun (take m t) c nothing, best_part rows (take m t) (drop m t), ap (best rows) same, length-take-le m t p)

-- ---- after a well-formed beginning

-- What follows it can be completed exactly when both together can.
with_beginning : {a u : List ℕ} → WellFormed a → Completable u → Completable (a ++ u)
with_beginning w c = record { rest = c.rest; whole = rw append_assoc (well_append w c.whole) }

without_beginning : {a u : List ℕ} → WellFormed a → Completable (a ++ u) → Completable u
without_beginning {a} {u} w c =
    let all : WellFormed (a ++ (u ++ c.rest)) = rw append_assoc at c.whole in
    let good : good_len (u ++ c.rest) ≡ length (u ++ c.rest) = omega (arith, well_then (u ++ c.rest) w, well_good all, length-append a (u ++ c.rest)) in
    record { rest = c.rest; whole = good_well (u ++ c.rest) good }

-- ---- the laws

-- What follows the good beginning.
abbrev after : List ℕ → List ℕ
after s = drop (good_len s) s

-- It begins with no whole sequence, or the good beginning would be longer.
stopped : (s : List ℕ) → seq_len rows (after s) ≡ 0
stopped s =
    omega (arith, well_then (after s) (longest s).good, ap good_len (take-append-drop (good_len s) s), length-take-le (good_len s) s (good_fits s), good_step (after s))

-- What `bad_len` tells of the bytes that agree with a row: they are all of t, or fewer.
bad_none : (t : List ℕ) → bad_len t ≡ 0 → best rows t ≡ length t
unfolding bad_len
bad_none t = go (eqb (best rows t) (length t)) refl
  where
    go : (test : Bool) → eqb (best rows t) (length t) ≡ test → cond test 0 (max 1 (best rows t)) ≡ 0 → best rows t ≡ length t
    go true i z = eqb-true _ _ i
    go false i z = absurd (omega arith)

bad_some : (t : List ℕ) → 0 < bad_len t → (bad_len t ≡ max 1 (best rows t)) × (best rows t < length t)
unfolding bad_len
bad_some t = go (eqb (best rows t) (length t)) refl
  where
    go : (test : Bool) → eqb (best rows t) (length t) ≡ test → 0 < cond test 0 (max 1 (best rows t))
        → (cond test 0 (max 1 (best rows t)) ≡ max 1 (best rows t)) × (best rows t < length t)
    go true i p = absurd (omega arith)
    go false i p = (refl, omega (arith, eqb-false (best rows t) (length t) i, best_fits rows t))

-- Nothing is bad exactly where more bytes, or none, could complete the text.
pub cut_or_good : (s : List ℕ) → (checked s).bad ≡ 0 → Completable s
unfolding checked
cut_or_good s e = rw take-append-drop at (with_beginning (longest s).good (begun_completable (after s) (bad_none (after s) e)))

pub completable_zero : (s : List ℕ) → Completable s → (checked s).bad ≡ 0
unfolding checked bad_len
completable_zero s c =
    let all : Completable (take (good_len s) s ++ after s) = rw take-append-drop c in
    rw (eq-eqb _ _ (completable_begun (after s) (without_beginning (longest s).good all) (stopped s)))

-- Else it is the bad sequence after the good beginning.
pub bad_sequence : (s : List ℕ) → 0 < (checked s).bad → BadSequence s (good_len s) (checked s).bad
unfolding checked
bad_sequence s p =
    let found = bad_some (after s) p in
    record {
      some = p;
      inside = omega (arith, found, length-drop (good_len s) s);
      begun = λ two. rw take-add (with_beginning (longest s).good (take_completable (after s) (bad_len (after s)) (omega (arith, found, two))));
      most = λ m fits c.
          let taken : Completable (take m (after s)) = without_beginning (longest s).good (rw take-add at c) in
          omega (arith, found, completable_take (after s) m (stopped s) (omega (arith, fits, length-drop (good_len s) s)) taken);
    }

-- No other length is that of a bad sequence there.
pub bad_one : {s : List ℕ} {at n m : ℕ} → BadSequence s at n → BadSequence s at m → n ≡ m
bad_one {s} {at} p q = omega (arith, at_most p q, at_most q p)
  where
    at_most : {n m : ℕ} → BadSequence s at n → BadSequence s at m → n ≤ m
    at_most {n} {m} p q = go (leb 2 n) refl
      where
        go : (test : Bool) → leb 2 n ≡ test → n ≤ m
        go true i = q.most n p.inside (p.begun (leb-true _ _ i))
        go false i = omega (arith, leb-false 2 n i, q.some)

pub bad_small : (s : List ℕ) → (checked s).bad ≤ 3
unfolding checked bad_len
bad_small s = go (eqb (best rows (after s)) (length (after s)))
  where
    go : (test : Bool) → cond test 0 (max 1 (best rows (after s))) ≤ 3
    go true = zero-le
    go false = omega (arith, best_small rows (after s) rows_sound (stopped s))
