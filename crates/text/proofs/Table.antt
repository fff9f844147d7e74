-- Laws of the table: its rows begin with different bytes, so that a text's first byte decides which row counts.
use mathlib.Core.Path.{◌≡◌, refl, sym, ap, ◌∙◌}
use mathlib.Core.Bool.{Bool, true, false, cond}
use mathlib.Core.List.{List, [], ◌∷◌, ◌++◌}
use Prim.Native.Nat.{ℕ, zero, suc, ◌≤◌, ◌<◌, zero-le}
use native.Mathlib.Nat.{le_of_suc-le-suc, not-suc-le-zero, add-zero}
use native.Mathlib.Omega.{arith}
use borrow.Author.Rules.{rules}
use borrow.Author.Tests.{eq-eqb, ne_eqb, eqb-true, eqb-false}
use lib.Dec.{eqb, eqb-zero-suc}
use lib.ListN.{length, get_or, take, drop, length-drop, length-take, take-append-drop}
use Rattle.std.proofs.lemmas.List.{length-map}
use lib.Seq.{get_or-drop}
use denote.Ref.{Bor}
use Rattle.std.specs.Prelude.{Option, None, Some, find, take_while, zip, MatchOption, map, slice_get}
use Rattle.std.specs.List.{list_all}
use Rattle.text.specs.declared.Bytes.{Bytes}
use Rattle.text.specs.Utf8.{Range, ◌to◌, within, rows, agree, seq_len, best}
use Rattle.text.specs.Steps.{trail, range_of, ranges, leads, led_by, allowed, row_for}
use Rattle.text.proofs.Agree.{in_range, below_range, above_range, range_in, agree_fits, agree_out, agree_in, agree_lead, agree_part, agree_counts, agree_all}

-- ---- the order of the rows

-- Each row of l has a first range, that of the first at h or above, and each above that of the row before.
pub Rising : ℕ → List (List Range) → Type 0
Rising h [] = Unit {0}
Rising h ([] ∷ l) = ⊥
Rising h ((r ∷ row) ∷ l) = (h ≤ r.low) × (r.low ≤ r.high) × Rising (suc r.high) l

pub rows_rising : Rising 0 rows
unfolding Rising rows
rows_rising = search rules

pub rising_at : (h : ℕ) (l : List (List Range)) (k : ℕ) → Rising h l → k < length l → (0 < length (get_or l k [])) × (h ≤ (get_or (get_or l k []) 0 trail).low)
unfolding Rising
rising_at h [] k o p = absurd (not-suc-le-zero p)
rising_at h ([] ∷ l) k o p = absurd o
rising_at h ((r ∷ row) ∷ l) zero o p = (omega arith, o.0)
rising_at h ((r ∷ row) ∷ l) (suc k) o p = let rest = rising_at (suc r.high) l k o.2 (le_of_suc-le-suc p) in (rest.0, omega arith)

-- ---- a text's first byte decides

-- A row in whose first range it does not lie says nothing of the text.
row_out : (r : Range) (row : List Range) (l : List (List Range)) (s : List ℕ) → within r (get_or s 0 0) ≡ false
    → (seq_len ((r ∷ row) ∷ l) s ≡ seq_len l s) × (best ((r ∷ row) ∷ l) s ≡ best l s)
unfolding seq_len best
row_out r row l s e =
    let out : agree (r ∷ row) s ≡ 0 = agree_out r row s e in
    (rw (out, eqb-zero-suc (length row)), omega (arith, out))

rows_out : (h : ℕ) (l : List (List Range)) (s : List ℕ) → Rising h l → get_or s 0 0 < h → (seq_len l s ≡ 0) × (best l s ≡ 0)
unfolding Rising seq_len best
rows_out h [] s o p = (refl, refl)
rows_out h ([] ∷ l) s o p = absurd o
rows_out h ((r ∷ row) ∷ l) s o p =
    let out = row_out r row l s (below_range r (get_or s 0 0) (omega arith)) in
    let rest = rows_out (suc r.high) l s o.2 (omega arith) in
    (out.0 ∙ rest.0, out.1 ∙ rest.1)

pub decided : (h : ℕ) (l : List (List Range)) (s : List ℕ) → Rising h l
    → (seq_len l s ≡ seq_len (row_for l (get_or s 0 0) ∷ []) s) × (best l s ≡ agree (row_for l (get_or s 0 0)) s)
unfolding Rising agree seq_len best row_for
decided h [] s o = (refl, refl)
decided h ([] ∷ l) s o = absurd o
decided h ((r ∷ row) ∷ l) s o = go (within r (get_or s 0 0)) refl (decided (suc r.high) l s o.2)
  where
    b : ℕ
    b = get_or s 0 0

    go : (t : Bool) → within r b ≡ t → (seq_len l s ≡ seq_len (row_for l b ∷ []) s) × (best l s ≡ agree (row_for l b) s)
        → (seq_len ((r ∷ row) ∷ l) s ≡ seq_len (cond t (r ∷ row) (row_for l b) ∷ []) s) × (best ((r ∷ row) ∷ l) s ≡ agree (cond t (r ∷ row) (row_for l b)) s)
    go true e rest =
        let none = rows_out (suc r.high) l s o.2 (omega (arith, range_in r b e)) in
        (rw none.0, omega (arith, none.1))
    go false e rest = let out = row_out r row l s e in (out.0 ∙ rest.0, out.1 ∙ rest.1)

-- ---- row_for

-- Row k is that of each byte of its first range.
pub row_for_law : (h : ℕ) (l : List (List Range)) (k b : ℕ) → Rising h l → k < length l → within (get_or (get_or l k []) 0 trail) b ≡ true → row_for l b ≡ get_or l k []
unfolding Rising row_for
row_for_law h [] k b o p e = absurd (not-suc-le-zero p)
row_for_law h ([] ∷ l) k b o p e = absurd o
row_for_law h ((r ∷ row) ∷ l) zero b o p e = rw e
row_for_law h ((r ∷ row) ∷ l) (suc k) b o p e =
    let later = (rising_at (suc r.high) l k o.2 (le_of_suc-le-suc p)).1 in
    rw (above_range r b (omega (arith, later, (range_in (get_or (get_or l k []) 0 trail) b e).0))) (row_for_law (suc r.high) l k b o.2 (le_of_suc-le-suc p) e)

-- A row that was found has the text's first byte in it.
pub found_agrees : (l : List (List Range)) (s : List ℕ) → 0 < length s → 0 < length (row_for l (get_or s 0 0)) → 0 < agree (row_for l (get_or s 0 0)) s
unfolding row_for
found_agrees [] s p q = absurd (not-suc-le-zero q)
found_agrees (row ∷ l) s p q = go row (within (get_or row 0 trail) (get_or s 0 0)) refl (found_agrees l s p) q
  where
    rest : List Range
    rest = row_for l (get_or s 0 0)

    go : (row : List Range) (t : Bool) → within (get_or row 0 trail) (get_or s 0 0) ≡ t → (0 < length rest → 0 < agree rest s)
        → 0 < length (cond t row rest) → 0 < agree (cond t row rest) s
    go [] true e h q = absurd (not-suc-le-zero q)
    go (r ∷ row) true e h q = agree_in r row s p e
    go row false e h q = h q

-- A row all of whose ranges agree with the text is the first such row.
pub full_row : (h : ℕ) (l : List (List Range)) (k : ℕ) (s : List ℕ) → Rising h l → k < length l → agree (get_or l k []) s ≡ length (get_or l k [])
    → seq_len l s ≡ length (get_or l k [])
unfolding Rising seq_len
full_row h [] k s o p e = absurd (not-suc-le-zero p)
full_row h ([] ∷ l) k s o p e = absurd o
full_row h ((r ∷ row) ∷ l) zero s o p e = rw (eq-eqb _ _ e)
full_row h ((r ∷ row) ∷ l) (suc k) s o p e =
    let next = rising_at (suc r.high) l k o.2 (le_of_suc-le-suc p) in
    let lead = range_in (get_or (get_or l k []) 0 trail) (get_or s 0 0) (agree_lead (get_or l k []) s (rw e next.0)) in
    let out = row_out r row l s (above_range r (get_or s 0 0) (omega (arith, next.1, lead.0))) in
    out.0 ∙ full_row (suc r.high) l k s o.2 (le_of_suc-le-suc p) e

-- ---- what `row_of` finds

abbrev pub RowFor : List (List Range) → ℕ → Option (Bor (List Bytes)) → Type 0
RowFor l b found = MatchOption found (row_for l b ≡ []) (λ row. (0 < length row.now) × (ranges row.now ≡ row_for l b))

abbrev pub shown : List (Bor (List Bytes)) → List (List Range)
shown l = map (λ (row : Bor (List Bytes)). ranges row.now) l

-- The first row that a byte leads.
pub row_found : (h : ℕ) (l : List (Bor (List Bytes))) (b : ℕ) → Rising h (shown l) → RowFor (shown l) b (find (led_by b) l)
unfolding Rising row_for
row_found h [] b o = refl
row_found h (first ∷ l) b o = go first.now refl o (λ high p. row_found high l b p)
  where
    found : Option (Bor (List Bytes))
    found = find (led_by b) l

    go : (row : List Bytes) → first.now ≡ row → Rising h (ranges row ∷ shown l) → ((high : ℕ) → Rising high (shown l) → RowFor (shown l) b found)
        → RowFor (ranges row ∷ shown l) b (cond (leads row b) (Some first) found)
    go [] e o rest = absurd o
    go (r ∷ row) e o rest = by_test (within (range_of r) b) (rest (suc r.1) o.2)
      where
        by_test : (t : Bool) → RowFor (shown l) b found
            → MatchOption (cond t (Some first) found) (cond t (ranges (r ∷ row)) (row_for (shown l) b) ≡ [])
            (λ row'. (0 < length row'.now) × (ranges row'.now ≡ cond t (ranges (r ∷ row)) (row_for (shown l) b)))
        by_test true f = rw e (omega arith, refl)
        by_test false f = f

pub row_of_table : (l : List (Bor (List Bytes))) (b : ℕ) (found : Option (Bor (List Bytes))) → shown l ≡ rows → found ≡ find (led_by b) l → RowFor rows b found
row_of_table l b found e f = rw f (rw e at (row_found 0 l b (rw e rows_rising)))

-- ---- what `sequence` and `begun` find

pub lead_of : (s : List ℕ) (at : ℕ) → get_or (drop at s) 0 0 ≡ get_or s at 0
lead_of s at = get_or-drop at s 0 0 ∙ ap (λ (i : ℕ). get_or s i 0) (add-zero at)

ascii_first : (s : List ℕ) → 0 < length s → get_or s 0 0 < 0x80 → 1 ≡ seq_len rows s
unfolding seq_len rows agree
ascii_first [] p q = absurd (not-suc-le-zero p)
ascii_first (b ∷ s) p q = rw (in_range (0 to 0x7F) b zero-le (omega arith))

pub sequence_ascii : (text : List ℕ) (at : ℕ) → at < length text → get_or text at 0 < 0x80 → 1 ≡ seq_len rows (drop at text)
sequence_ascii text at p q = ascii_first (drop at text) (omega (arith, length-drop at text)) (omega (arith, lead_of text at))

pub first_is : (s : List ℕ) (b : ℕ) → Some b ≡ slice_get s 0 → (0 < length s) × (get_or s 0 0 ≡ b)
first_is [] b e = cc
first_is (x ∷ s) b e = (omega arith, cc)

-- No row begins an empty text, or one whose first byte leads none.
pub nothing_begun : (s : List ℕ) → None ≡ slice_get s 0 → (seq_len rows s ≡ 0) × (best rows s ≡ 0)
unfolding seq_len best rows agree
nothing_begun [] e = (refl, refl)
nothing_begun (x ∷ s) e = cc

pub none_begun : (s : List ℕ) → row_for rows (get_or s 0 0) ≡ [] → (seq_len rows s ≡ 0) × (best rows s ≡ 0)
unfolding seq_len agree
none_begun s e =
    let d = decided 0 rows s rows_rising in
    (d.0 ∙ rw e, d.1 ∙ rw e)

-- How many bytes agree, in the words of the code's chain.
abbrev agreed : List Bytes → List ℕ → ℕ
agreed row s = length (take_while allowed (zip row s))

module _ (s : List ℕ) (row : List Bytes) (is : ranges row ≡ row_for rows (get_or s 0 0)) where
  pub begun_row : (n : ℕ) → n ≡ agreed row s → n ≡ best rows s
  begun_row n e = e ∙ agree_counts row s ∙ rw is (sym (decided 0 rows s rows_rising).1)

  one_row : seq_len rows s ≡ cond (eqb (agree (ranges row) s) (length row)) (length row) 0
  unfolding seq_len
  one_row = rw (length-map row range_of) at (rw (← is) at (decided 0 rows s rows_rising).0)

  pub sequence_cut : (n : ℕ) → n ≡ agreed row s → n < length row → seq_len rows s ≡ 0
  sequence_cut n e q = rw (one_row, ne_eqb (agree (ranges row) s) (length row) (λ f. omega (arith, e, f, agree_counts row s)))

  pub sequence_whole : (n : ℕ) → n ≡ agreed row s → length row ≤ n → (length row ≤ length s) × (length row ≡ seq_len rows s)
  sequence_whole n e q =
      let fits = agree_fits (ranges row) s in
      let same : agree (ranges row) s ≡ length row = omega (arith, e, agree_counts row s, fits, length-map row range_of) in
      (omega (arith, fits, same), rw (one_row, eq-eqb (agree (ranges row) s) (length row) same))

-- ---- the tests of four bytes

-- No row of l has more than four ranges.
Short : List (List Range) → Type 0
Short [] = Unit {0}
Short (row ∷ l) = (length row ≤ 4) × Short l

short_at : (l : List (List Range)) (k : ℕ) → Short l → length (get_or l k []) ≤ 4
unfolding Short
short_at [] k o = zero-le
short_at (row ∷ l) zero o = o.0
short_at (row ∷ l) (suc k) o = short_at l k o.1

-- A row of the definition's table as the code's has it.
abbrev pub coded : List Range → List Bytes
coded row = map (λ (r : Range). (r.low, r.high)) row

coded_same : (row : List Range) → ranges (coded row) ≡ row
coded_same [] = refl
coded_same (r ∷ row) = ap (λ (l : List Range). r ∷ l) (coded_same row)

-- A row all of whose ranges agree.
pub whole_row : (k : ℕ) (s : List ℕ) → k < 9 → 4 ≤ length s → list_all allowed (zip (coded (get_or rows k [])) s) ≡ true → length (get_or rows k []) ≡ seq_len rows s
unfolding Short rows
whole_row k s p q h =
    let row = coded (get_or rows k []) in
    let same : ranges row ≡ get_or rows k [] = coded_same (get_or rows k []) in
    let fits : length row ≤ length s = omega (arith, short_at rows k (search rules), ap length same, length-map row range_of) in
    let full : agree (ranges row) s ≡ length (ranges row) = eqb-true _ _ (sym (agree_all row s fits) ∙ h) in
    sym (full_row 0 rows k s rows_rising p (rw same at full))

seq_short : (l : List (List Range)) (s : List ℕ) → Short l → seq_len l s ≤ 4
unfolding Short seq_len
seq_short [] s o = zero-le
seq_short (row ∷ l) s o = go (eqb (agree row s) (length row)) (seq_short l s o.1)
  where
    go : (t : Bool) → seq_len l s ≤ 4 → cond t (length row) (seq_len l s) ≤ 4
    go true h = o.0
    go false h = h

-- The beginning u of a text u ++ v begins with the text's sequence, unless that is longer.
pub seq_part : (l : List (List Range)) (u v : List ℕ) → seq_len l (u ++ v) ≤ length u → seq_len l u ≡ seq_len l (u ++ v)
unfolding seq_len
seq_part [] u v p = refl
seq_part (row ∷ l) u v p = go (eqb (agree row (u ++ v)) (length row)) refl (seq_part l u v) p
  where
    go : (t : Bool) → eqb (agree row (u ++ v)) (length row) ≡ t → (seq_len l (u ++ v) ≤ length u → seq_len l u ≡ seq_len l (u ++ v))
        → cond t (length row) (seq_len l (u ++ v)) ≤ length u
        → cond (eqb (agree row u) (length row)) (length row) (seq_len l u) ≡ cond t (length row) (seq_len l (u ++ v))
    go true e h p = rw (eq-eqb (agree row u) (length row) (omega (arith, eqb-true (agree row (u ++ v)) (length row) e, agree_part row u v)))
    go false e h p =
        let differ = eqb-false (agree row (u ++ v)) (length row) e in
        rw (ne_eqb (agree row u) (length row) (λ f. differ (omega (arith, f, agree_part row u v, agree_fits row (u ++ v))))) (h p)

-- The first four bytes of a text begin with its sequence.
pub seq_four : (s : List ℕ) → 4 ≤ length s → seq_len rows (take 4 s) ≡ seq_len rows s
unfolding Short rows
seq_four s p =
    let short : seq_len rows (take 4 s ++ drop 4 s) ≤ 4 = seq_short rows (take 4 s ++ drop 4 s) (search rules) in
    rw take-append-drop at (seq_part rows (take 4 s) (drop 4 s) (omega (arith, short, length-take 4 s)))
