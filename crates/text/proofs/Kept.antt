-- Laws of the older walk over a row, byte by byte, and over the rows, row by row. No answer cites them any more.
use mathlib.Core.Path.{◌≡◌, refl, sym, ap, ◌∙◌}
use mathlib.Core.Bool.{Bool, true, false, cond, not}
use mathlib.Core.List.{List, [], ◌∷◌}
use Prim.Native.Nat.{ℕ, zero, suc, ◌+◌, ◌-◌, ◌≤◌, ◌<◌, min, zero-le}
use native.Mathlib.Nat.{le_of_suc-le-suc, not-suc-le-zero, add-zero}
use native.Mathlib.Numerals.{add-one}
use native.Mathlib.Omega.{arith}
use borrow.Author.Tests.{eq-eqb, ne_eqb, ltb-true, ltb-false, not-true, not-false}
use lib.Dec.{eqb, ltb}
use lib.ListN.{length, get_or, drop, length-drop, drop_of_length-le}
use lib.Seq.{get_or-drop}
use Rattle.std.proofs.lemmas.List.{length-map}
use Rattle.text.specs.declared.Bytes.{Bytes}
use Rattle.text.specs.Utf8.{Range, within, rows, agree, seq_len, best}
use Rattle.text.specs.Steps.{trail, range_of, ranges, row_for, Ascii, Passed}
use Rattle.text.proofs.Agree.{agree_fits}
use Rattle.text.proofs.Table.{rows_rising, rising_at, decided, found_agrees, full_row, lead_of}
use Rattle.text.proofs.Laws.{passed_length}

-- ---- agree

agree_first : (row : List Range) (s : List ℕ) → 0 < agree row s → agree row s ≡ 1 + agree (drop 1 row) (drop 1 s)
unfolding agree
agree_first [] s p = absurd (not-suc-le-zero p)
agree_first (r ∷ row) [] p = absurd (not-suc-le-zero p)
agree_first (r ∷ row) (b ∷ s) p = go (within r b) p
  where
    go : (t : Bool) → 0 < cond t (suc (agree row s)) 0 → cond t (suc (agree row s)) 0 ≡ 1 + agree row s
    go true q = omega arith
    go false q = absurd (not-suc-le-zero q)

agree_turn : (row : List Range) (s : List ℕ) (i : ℕ) → i < length row → i < length s
    → agree (drop i row) (drop i s) ≡ cond (within (get_or row i trail) (get_or s i 0)) (suc (agree (drop (suc i) row) (drop (suc i) s))) 0
unfolding agree
agree_turn [] s i p q = absurd (not-suc-le-zero p)
agree_turn (r ∷ row) [] i p q = absurd (not-suc-le-zero q)
agree_turn (r ∷ row) (b ∷ s) zero p q = refl
agree_turn (r ∷ row) (b ∷ s) (suc i) p q = agree_turn row s i (le_of_suc-le-suc p) (le_of_suc-le-suc q)

-- One byte more that lies in its range.
pub agree_grows : (row : List Range) (s : List ℕ) (i : ℕ) → i ≤ agree row s → i < length row → i < length s → within (get_or row i trail) (get_or s i 0) ≡ true → suc i ≤ agree row s
unfolding agree
agree_grows [] s i h p q e = absurd (not-suc-le-zero p)
agree_grows (r ∷ row) [] i h p q e = absurd (not-suc-le-zero q)
agree_grows (r ∷ row) (b ∷ s) zero h p q e = rw e (omega arith)
agree_grows (r ∷ row) (b ∷ s) (suc i) h p q e = go (within r b) h (λ g. agree_grows row s i g (le_of_suc-le-suc p) (le_of_suc-le-suc q) e)
  where
    go : (t : Bool) → suc i ≤ cond t (suc (agree row s)) 0 → (i ≤ agree row s → suc i ≤ agree row s) → suc (suc i) ≤ cond t (suc (agree row s)) 0
    go true g more = omega (arith, more (le_of_suc-le-suc g))
    go false g more = absurd (not-suc-le-zero g)

-- ---- a row of the code's table

-- The range that it has at a place.
abbrev pub range_at : List Bytes → ℕ → Range
range_at row i = get_or (ranges row) i trail

pub length_ranges : (row : List Bytes) → length (ranges row) ≡ length row
length_ranges row = length-map row range_of

-- ---- byte by byte

-- What it knows after i bytes.
abbrev pub Agreed : List ℕ → ℕ → List Bytes → ℕ → Type 0
Agreed text at row i = agree (ranges row) (drop at text) ≡ i + agree (drop i (ranges row)) (drop i (drop at text))

pub agreed_first : (text : List ℕ) (at : ℕ) (row : List Bytes) (n : ℕ) → n ≡ min (length row) (length text - at) → 0 < agree (ranges row) (drop at text) → (1 ≤ n) × Agreed text at row 1
agreed_first text at row n is p =
    (omega (arith, agree_fits (ranges row) (drop at text), length_ranges row, length-drop at text), agree_first (ranges row) (drop at text) p)

module _ (text : List ℕ) (at : ℕ) (row : List Bytes) (i n : ℕ) (is : n ≡ min (length row) (length text - at)) (known : Agreed text at row i) where
  pub agreed_end : n ≤ i → i ≡ agree (ranges row) (drop at text)
  agreed_end p =
      omega (arith, agree_fits (drop i (ranges row)) (drop i (drop at text)), length-drop i (ranges row), length-drop i (drop at text), length_ranges row, length-drop at text)

  module _ (t : Bool) (below : i < n) (test : t ≡ within (range_at row i) (get_or text (at + i) 0)) where
    turn : agree (ranges row) (drop at text) ≡ i + cond t (suc (agree (drop (suc i) (ranges row)) (drop (suc i) (drop at text)))) 0
    turn =
        let in_row : i < length (ranges row) = omega (arith, length_ranges row) in
        let in-text : i < length (drop at text) = omega (arith, length-drop at text) in
        rw (known, agree_turn (ranges row) (drop at text) i in_row in-text, get_or-drop at text i 0, test)

    pub agreed_stop : not t ≡ true → i ≡ agree (ranges row) (drop at text)
    agreed_stop e = rw (turn, not-true t e) (omega arith)

    pub agreed_more : not t ≡ false → Agreed text at row (i + 1)
    agreed_more e = rw (add-one, turn, not-false t e) (omega arith)

-- ---- the tests of a row where four bytes are left

module _ (text : List ℕ) (at k : ℕ) (room : at + 4 ≤ length text) (p : k < 9) where
  pub grown : (row : List Bytes) (i : ℕ) (t : Bool) → ranges row ≡ get_or rows k [] → i < 4 → i < length (get_or rows k []) → i ≤ agree (get_or rows k []) (drop at text)
      → t ≡ within (range_at row i) (get_or text (at + i) 0) → t ≡ true → suc i ≤ agree (get_or rows k []) (drop at text)
  grown row i t is small in_row h test e =
      let range : get_or (get_or rows k []) i trail ≡ range_at row i = ap (λ (l : List Range). get_or l i trail) (sym is) in
      agree_grows (get_or rows k []) (drop at text) i h in_row (omega (arith, length-drop at text)) (rw (range, get_or-drop at text i 0, ← test) e)

  pub two_grown : (row : List Bytes) (t u : Bool) → ranges row ≡ get_or rows k [] → 2 ≤ length (get_or rows k []) → t ≡ within (range_at row 0) (get_or text at 0)
      → u ≡ within (range_at row 1) (get_or text (at + 1) 0) → not t ≡ false → u ≡ true → 2 ≤ agree (get_or rows k []) (drop at text)
  two_grown row t u is long first second f e =
      let one = grown row 0 t is (omega arith) (omega arith) zero-le (rw (add-zero at) first) (not-false t f) in
      grown row 1 u is (omega arith) (omega arith) one second e

  pub whole_row : (n : ℕ) → length (get_or rows k []) ≡ n → n ≤ agree (get_or rows k []) (drop at text) → seq_len rows (drop at text) ≡ n
  unfolding rows
  whole_row n e h = full_row 0 rows k (drop at text) rows_rising p (omega (arith, agree_fits (get_or rows k []) (drop at text))) ∙ e

-- ---- row by row

-- What it knows before row k.
abbrev pub Sought : ℕ → ℕ → Type 0
Sought b k = row_for rows b ≡ row_for (drop k rows) b

row_turn : (l : List (List Range)) (k b : ℕ) → k < length l → row_for (drop k l) b ≡ cond (within (get_or (get_or l k []) 0 trail) b) (get_or l k []) (row_for (drop (suc k) l) b)
unfolding row_for
row_turn [] k b p = absurd (not-suc-le-zero p)
row_turn (row ∷ l) zero b p = refl
row_turn (row ∷ l) (suc k) b p = row_turn l k b (le_of_suc-le-suc p)

pub row_full : (k : ℕ) (row : List Bytes) → k < 9 → ranges row ≡ get_or rows k [] → length row ≡ 0 → ⊥
unfolding rows
row_full k row p is z =
    let full : 0 < length (ranges row) = rw is (rising_at 0 rows k rows_rising p).0 in
    omega (arith, full, length_ranges row, z)

module _ (b k : ℕ) (row : List Bytes) (t : Bool) (p : k < 9) (known : Sought b k) (is : ranges row ≡ get_or rows k []) (test : t ≡ within (range_at row 0) b) where
  sought_turn : row_for rows b ≡ cond t (get_or rows k []) (row_for (drop (suc k) rows) b)
  unfolding rows
  sought_turn =
      let first : get_or (get_or rows k []) 0 trail ≡ range_at row 0 = ap (λ (l : List Range). get_or l 0 trail) (sym is) in
      rw (known, row_turn rows k b p, first, test)

  pub row_found : t ≡ true → ranges row ≡ row_for rows b
  row_found e = is ∙ sym (sought_turn ∙ rw e)

  pub row_passed : t ≡ false → Sought b (k + 1)
  row_passed e = rw add-one (sought_turn ∙ rw e)

-- ---- the row of a text's first byte

module _ (text : List ℕ) (at : ℕ) (row : List Bytes) (is : ranges row ≡ row_for rows (get_or text at 0)) (p : at < length text) where
  here : ranges row ≡ row_for rows (get_or (drop at text) 0 0)
  here = is ∙ ap (row_for rows) (sym (lead_of text at))

  pub lead_agrees : (length row ≡ 0 → ⊥) → 0 < agree (ranges row) (drop at text)
  lead_agrees q =
      let full : 0 < length (row_for rows (get_or (drop at text) 0 0)) = rw (← here) (omega (arith, length_ranges row)) in
      rw here (found_agrees rows (drop at text) (omega (arith, length-drop at text)) full)

  pub begun_row : (n : ℕ) → n ≡ agree (ranges row) (drop at text) → n ≡ best rows (drop at text)
  begun_row n e = e ∙ rw here (sym (decided 0 rows (drop at text) rows_rising).1)

  one_row : seq_len rows (drop at text) ≡ cond (eqb (agree (ranges row) (drop at text)) (length row)) (length row) 0
  unfolding seq_len
  one_row = rw (length_ranges row) at (rw (← here) at (decided 0 rows (drop at text) rows_rising).0)

  pub sequence_none : length row ≡ 0 → 0 ≡ seq_len rows (drop at text)
  sequence_none e = rw (one_row, eq-eqb (agree (ranges row) (drop at text)) (length row) (omega (arith, agree_fits (ranges row) (drop at text), length_ranges row))) (sym e)

  pub sequence_cut : (n : ℕ) → n ≡ agree (ranges row) (drop at text) → n < length row → 0 ≡ seq_len rows (drop at text)
  sequence_cut n e q = rw (one_row, ne_eqb (agree (ranges row) (drop at text)) (length row) (λ f. omega (arith, e, f)))

  pub sequence_whole : (n : ℕ) → n ≡ agree (ranges row) (drop at text) → length row ≤ n → length row ≡ seq_len rows (drop at text)
  sequence_whole n e q = rw (one_row, eq-eqb (agree (ranges row) (drop at text)) (length row) (omega (arith, e, agree_fits (ranges row) (drop at text), length_ranges row)))

-- No row has the first byte.
pub begun_none : (text : List ℕ) (at k : ℕ) → 9 ≤ k → Sought (get_or text at 0) k → 0 ≡ best rows (drop at text)
unfolding row_for agree rows
begun_none text at k p known =
    let none : drop k rows ≡ [] = drop_of_length-le rows p in
    let row : row_for rows (get_or (drop at text) 0 0) ≡ [] = rw (lead_of text at) (known ∙ rw none) in
    sym ((decided 0 rows (drop at text) rows_rising).1 ∙ rw row)

-- ---- what is passed

-- What agrees with all of a row is a sequence.
pub passed_row : (s : List ℕ) (at k n : ℕ) → at + 4 ≤ length s → k < 9 → length (get_or rows k []) ≡ n → n ≤ agree (get_or rows k []) (drop at s) → Passed s at (at + n)
passed_row s at k n room p e h =
    passed_length s at n (omega (arith, agree_fits (get_or rows k []) (drop at s), length-drop at s)) (whole_row s at k room p n e h)

pub ascii_none : (s : List ℕ) (at : ℕ) → at ≤ length s → Ascii s at (at + 0)
ascii_none s at p = record { inside = omega arith; each = λ i q r. absurd (omega (arith, q, r)) }

pub ascii_more : (s : List ℕ) (from n : ℕ) → Ascii s from (from + n) → from + n < length s → get_or s (from + n) 0 < 0x80 → Ascii s from (from + n + 1)
ascii_more s from n h p q = record { inside = omega arith; each = λ i l u. go i (ltb i (from + n)) refl l u }
  where
    go : (i : ℕ) (t : Bool) → ltb i (from + n) ≡ t → from ≤ i → i < from + n + 1 → get_or s i 0 < 0x80
    go i true e l u = h.each i l (ltb-true _ _ e)
    go i false e l u = let last : i ≡ from + n = omega (arith, ltb-false i (from + n) e) in rw last q
