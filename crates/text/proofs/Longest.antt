-- `good_len` is the length of the longest well-formed beginning.
use mathlib.Core.Path.{◌≡◌, refl, ap, ◌∙◌}
use mathlib.Core.Bool.{Bool, true, false, cond}
use mathlib.Core.List.{List, [], ◌∷◌, ◌++◌, append_assoc}
use Prim.Native.Nat.{ℕ, zero, suc, ◌+◌, ◌≤◌, ◌<◌, suc-le-suc}
use native.Mathlib.Nat.{not-suc-le-zero}
use native.Mathlib.Omega.{arith}
use borrow.Author.Tests.{eq-eqb, eqb-true}
use lib.Dec.{eqb}
use lib.ListN.{length, get_or, take, drop, length-append, length-drop, take-append-drop}
use lib.Seq.{take-add, drop-append_seam, length-take-le}
use Rattle.text.specs.Utf8.{Range, within, rows, agree, seq_len, good_len}
use Rattle.text.specs.Meaning.{Sequence, WellFormed, Longest}
use Rattle.text.specs.Meaning.Sequence.{end, byte}
use Rattle.text.specs.Meaning.WellFormed.{none, more}
use Rattle.text.specs.Steps.{trail}
use Rattle.text.proofs.Agree.{in_range, range_in}
use Rattle.text.proofs.Table.{rows_rising, rising_at, row_for_law, decided}
use Rattle.text.proofs.Laws.{good_step, good_none, good_fits}

-- ---- a sequence agrees with its row, whatever follows it

sequence_length : {row : List Range} {a : List ℕ} → Sequence row a → length row ≡ length a
sequence_length end = refl
sequence_length (byte l h q) = ap suc (sequence_length q)

sequence_agrees : {row : List Range} {a : List ℕ} (u : List ℕ) → Sequence row a → agree row (a ++ u) ≡ length row
unfolding agree
sequence_agrees u end = refl
sequence_agrees u (byte l h q) = rw (in_range _ _ l h) (ap suc (sequence_agrees u q))

sequence_first : {row : List Range} {a : List ℕ} (u : List ℕ) → Sequence row a → 0 < length row → within (get_or row 0 trail) (get_or (a ++ u) 0 0) ≡ true
sequence_first u end p = absurd (not-suc-le-zero p)
sequence_first u (byte l h q) p = in_range _ _ l h

agreed_sequence : (row : List Range) (s : List ℕ) → agree row s ≡ length row → Sequence row (take (length row) s)
unfolding agree
agreed_sequence [] s e = end
agreed_sequence (r ∷ row) [] e = absurd (omega arith)
agreed_sequence (r ∷ row) (b ∷ s) e = go (within r b) refl (agreed_sequence row s) e
  where
    go : (t : Bool) → within r b ≡ t → (agree row s ≡ length row → Sequence row (take (length row) s))
        → cond t (suc (agree row s)) 0 ≡ suc (length row) → Sequence (r ∷ row) (b ∷ take (length row) s)
    go true i h e = byte (range_in r b i).0 (range_in r b i).1 (h (omega arith))
    go false i h e = absurd (omega arith)

-- ---- seq_len finds the sequence that a text begins with, and nothing else

sequence_found : (k : ℕ) {a : List ℕ} (u : List ℕ) → k < length rows → Sequence (get_or rows k []) a → seq_len rows (a ++ u) ≡ length a
unfolding seq_len
sequence_found k {a} u p q =
    let first = sequence_first u q (rising_at 0 rows k rows_rising p).0 in
    (decided 0 rows (a ++ u) rows_rising).0
    ∙ rw (row_for_law 0 rows k (get_or (a ++ u) 0 0) rows_rising p first, eq-eqb _ _ (sequence_agrees u q)) (sequence_length q)

-- The row that s fits.
record Fitting (l : List (List Range)) (s : List ℕ) : Type 0 where
  k : ℕ
  k_lt : k < length l
  found : Sequence (get_or l k []) (take (seq_len l s) s)

fitting : (l : List (List Range)) (s : List ℕ) → 0 < seq_len l s → Fitting l s
unfolding seq_len
fitting [] s p = absurd (not-suc-le-zero p)
fitting (row ∷ l) s p = go (eqb (agree row s) (length row)) refl (fitting l s) p
  where
    go : (t : Bool) → eqb (agree row s) (length row) ≡ t → (0 < seq_len l s → Fitting l s) → 0 < cond t (length row) (seq_len l s) → Fitting (row ∷ l) s
    go true e h q = record { k = 0; k_lt = omega arith; found = rw e (agreed_sequence row s (eqb-true _ _ e)) }
    go false e h q = let f = h q in record { k = suc f.k; k_lt = suc-le-suc f.k_lt; found = rw e f.found }

-- ---- what is well formed is good, and the other way round

-- A well-formed beginning is good, and what is good after it stays good.
pub well_then : {t : List ℕ} (u : List ℕ) → WellFormed t → good_len (t ++ u) ≡ length t + good_len u
well_then u none = omega arith
well_then u (more {a = a} {b = b} k p q w) =
    let e : seq_len rows (a ++ b ++ u) ≡ length a = rw append_assoc (sequence_found k (b ++ u) p q) in
    let d : drop (length a) (a ++ b ++ u) ≡ b ++ u = rw append_assoc (drop-append_seam a (b ++ u)) in
    let g : good_len (a ++ b ++ u) ≡ length a + good_len (drop (length a) (a ++ b ++ u)) = rw e at (good_step (a ++ b ++ u)) in
    omega (arith, ap good_len d, length-append a b, well_then u w)

good_well_formed : (k : ℕ) (s : List ℕ) → length s ≤ k → WellFormed (take (good_len s) s)
good_well_formed zero s p = let z : good_len s ≡ 0 = omega (arith, good_fits s) in rw z none
good_well_formed (suc k) s p = go (seq_len rows s) refl (good_well_formed k (drop (seq_len rows s) s))
  where
    go : (n : ℕ) → seq_len rows s ≡ n
        → (length (drop (seq_len rows s) s) ≤ k → WellFormed (take (good_len (drop (seq_len rows s) s)) (drop (seq_len rows s) s)))
        → WellFormed (take (good_len s) s)
    go zero e h = let z : good_len s ≡ 0 = good_none s e in rw z none
    go (suc n) e h =
        let f = fitting rows s (omega arith) in
        rw (good_step s, take-add) (more f.k f.k_lt f.found (h (omega (arith, length-drop (seq_len rows s) s))))

pub longest : (s : List ℕ) → Longest s (good_len s)
longest s = record {
  within = good_fits s;
  good = good_well_formed (length s) s (omega arith);
  most = λ m p w. omega (arith, well_then (drop m s) w, ap good_len (take-append-drop m s), length-take-le m s p);
}
