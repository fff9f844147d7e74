-- Laws of what is printed for a line. No contract cites this file.
use Prim.Native.Nat.{ℕ, suc, ◌+◌, ◌-◌, ◌*◌, ◌^◌, ◌<◌, ◌≤◌}
use native.Mathlib.Omega.{arith}
use mathlib.Core.Path.{◌≡◌, refl, sym, ap, ◌∙◌}
use mathlib.Core.Bool.{Bool, true, false}
use mathlib.Core.List.{List, [], ◌∷◌, ◌++◌, append_assoc}
use Rattle.std.specs.Prelude.{Option, None, Some, IfSome, option_map, option_and_then}
use Rattle.std.specs.Bool.{then_some}
use lib.ListN.{length, take, drop, get_or, length-append, length-take}
use lib.Seq.{take_all}
use lib.Dec.{leb, eqb}
use borrow.Author.Tests.{le-leb, lt-leb, eq-eqb, ne_eqb, eqb-true, leb-true}
use Rattle.answer.specs.declared.Answer.{Answer}
use Rattle.answer.specs.declared.Read.{Read}
use Rattle.answer.specs.declared.Written.{Written}
use Rattle.std.specs.Fn.{Once}
use denote.Ref.{MutBor}
use Rattle.answer.specs.Paper.{number_of, wrote, written}
use Rattle.octets.specs.Octets.{pick, if_set, Bytes, put}
use Rattle.octets.proofs.Laws.{if_set_le_law, put_not, put_behind, put_start}
use Rattle.kind.specs.Kind.{Reads, Kind}
use Rattle.kind.specs.Write.{answered, stored}
use Rattle.kind.proofs.Cases.{number_is_done}
use Rattle.hex_text.specs.Hex.{spelled, pairs, decimal}
use Rattle.hex_text.proofs.Laws.{length_spelled, decimal_most}
use Rattle.case_line.specs.declared.LineRow.{LineRow}
use Rattle.case_line.specs.Steps.{row_in, redone, WroteRow}
use Rattle.case_line.specs.Line.{Row, row, row_of, row_for, all_pairs, payload, line_row, hex_or_dash, shown, printed, taken}

-- ---- outputs
-- two puts, one behind the other
pub two_puts : (d d1 d2 : List ℕ) (at m : ℕ) (xs ys : List ℕ) → d1 ≡ put d at xs → d2 ≡ put d1 m ys → m ≡ at + length xs → m + length ys ≤ length d → d2 ≡ put d at (xs ++ ys)
two_puts d d1 d2 at m xs ys p q e h = q ∙ put_behind d d1 at m xs ys p e h

-- what a call that prints a row promises of its answer and its output
abbrev pub Puts : Option Row → List ℕ → List ℕ → ℕ → Type 0
Puts o d d' n = record { value : n ≡ taken (length (shown o)) (length d); out_after : d' ≡ put d 0 (shown o) }

pub puts_none : (o : Option Row) (d : List ℕ) → length d < length (shown o) → Puts o d d 0
puts_none o d h =
    record { value = rw (lt-leb (length (shown o)) (length d) h); out_after = sym (put_not d 0 (shown o) (omega arith)) }

pub puts_all : (o : Option Row) (d d' : List ℕ) (n : ℕ) → n ≡ length (shown o) → n ≤ length d → d' ≡ put d 0 (shown o) → Puts o d d' n
puts_all o d d' n e h q =
    record { value = e ∙ rw (le-leb (length (shown o)) (length d) (omega arith)); out_after = q }

taken_fits : (n m : ℕ) → taken n m ≤ m
taken_fits n m = go (leb n m) refl
  where
    go : (t : Bool) → leb n m ≡ t → pick t n 0 ≤ m
    go true e = leb-true n m e
    go false e = omega arith

-- the same of a line that has that row, with the bounds that follow
pub puts_line : (o : Option Row) (line d d' : List ℕ) (n : ℕ) → o ≡ line_row line → length (shown o) ≤ 8218 → Puts o d d' n
    → record { value : n ≡ taken (length (printed line)) (length d); out_after : d' ≡ put d 0 (printed line); upper_bound : n ≤ length d; line_len_bound : length (printed line) ≤ 8218 }
unfolding printed
puts_line o line d d' n e l h =
    rw (← e) (record { value = h.value; out_after = h.out_after; upper_bound = omega (arith, h.value, taken_fits (length (shown o)) (length d)); line_len_bound = l })

-- ---- a row as it is printed
pub dash : (bs : List ℕ) → length bs ≡ 0 → hex_or_dash bs ≡ 0x2D ∷ []
unfolding hex_or_dash
dash [] h = refl
dash (b ∷ bs) h = absurd (omega arith)

pub in_hex : (bs : List ℕ) → (length bs ≡ 0 → ⊥) → hex_or_dash bs ≡ spelled bs
unfolding hex_or_dash
in_hex [] h = absurd (h refl)
in_hex (b ∷ bs) h = refl

pub length_hex_or_dash_law : (bs : List ℕ) → length (hex_or_dash bs) ≡ 2 * length bs + if_set (eqb (length bs) 0) 1
unfolding hex_or_dash if_set
length_hex_or_dash_law [] = refl
length_hex_or_dash_law (b ∷ bs) = rw (ne_eqb (suc (length bs)) 0 (λ (q : suc (length bs) ≡ 0). omega arith)) (omega (arith, length_spelled (b ∷ bs)))

hex_most : (m : ℕ) (bs : List ℕ) → 1 ≤ m → length bs ≤ m → length (hex_or_dash bs) ≤ 2 * m
unfolding hex_or_dash
hex_most m [] p h = omega arith
hex_most m (b ∷ bs) p h = omega (arith, length_spelled (b ∷ bs))

module _ (number used : ℕ) (bs : List ℕ) where
  pub length_shown : length (shown (Some (row number used bs))) ≡ length (decimal number) + 1 + (length (decimal used) + 1) + (length (hex_or_dash bs) + 1)
  unfolding shown
  length_shown = simp length-append (omega arith)

  -- a row of 4,096 bytes at most
  pub shown_most : number < 256 → used < 2 ^ 64 → length bs ≤ 4096 → length (shown (Some (row number used bs))) ≤ 8218
  shown_most h g l = omega (arith, length_shown, decimal_most 2 number (omega arith), decimal_most 19 used (omega arith), hex_most 4096 bs (omega arith) l)

  -- its three parts, one behind the other
  pub three_parts : decimal number ++ (0x20 ∷ []) ++ (decimal used ++ (0x20 ∷ [])) ++ (hex_or_dash bs ++ (0x0A ∷ [])) ≡ shown (Some (row number used bs))
  unfolding shown
  three_parts = simp append_assoc

-- ---- the row of a kind
-- no write answers a length past its output
answered_fits : (o : Option Answer) (bs : List ℕ) (m : ℕ) → (answered o bs m).len ≤ m
unfolding answered
answered_fits (Some a) bs m = omega arith
answered_fits None bs m = go (leb (length bs) m) refl
  where
    go : (t : Bool) → leb (length bs) m ≡ t → (wrote t (length bs)).len ≤ m
    go true e = leb-true (length bs) m e
    go false e = omega arith

-- a kind whose cleared payloads are as long as they were
module _ (k : Kind) (same : (s : List ℕ) → length (k.clear s) ≡ length s) where
  -- what was read is written in no more bytes than the payload has
  no_longer : {s : List ℕ} {v : k.Value} {n : ℕ} → Reads k.reader s v n → length (k.wire v) ≤ length s
  no_longer {s} {v} {n} r = omega (arith, ap length (k.written r) ∙ same (take n s) ∙ length-take n s)

  -- a payload that was read, and its record written into d, which is no shorter: the row, and that its bytes lie in d. What was read is refused by no test that comes before room
  pub redo : (s d d' : List ℕ) (a : Answer) (used : ℕ) (v : k.Value) (refused : Option Answer) (w : Written) (r : LineRow)
      → Bytes s
      → length s ≤ length d
      → a ≡ k.reader.answer s
      → used ≡ k.reader.used s
      → v ≡ k.reader.value s
      → (Reads k.reader s v used → refused ≡ None)
      → w ≡ answered refused (k.wire v) (length d)
      → d' ≡ stored refused d (k.wire v)
      → r ≡ redone a used w.len
      → record { bytes_after : row_in d' r ≡ row_of k.reader k.wire s; len_in_bounds : r.len ≤ length d }
  unfolding row_of if_set answered stored
  redo s d d' a used v refused w r b h ea eu ev able ew ed er = record {
    bytes_after = rw (er, go (eqb (number_of a) 0) refl, ea, eu, ev);
    len_in_bounds = omega (arith, ap (λ (r : LineRow). r.len) er, if_set_le_law (eqb (number_of a) 0) w.len, ap (λ (w : Written). w.len) ew, answered_fits refused (k.wire v) (length d));
  }
    where
      go : (t : Bool) → eqb (number_of a) 0 ≡ t → take (if_set t w.len) d' ≡ pick t (k.wire v) []
      go false q = refl
      go true q =
          let reads : Reads k.reader s v used = record { bytes = b; done = sym ea ∙ number_is_done a (eqb-true (number_of a) 0 q); value = sym ev; used = sym eu } in
          let fits : length (k.wire v) ≤ length d = omega (arith, no_longer reads) in
          let l : w.len ≡ length (k.wire v) = rw (ew, able reads, le-leb (length (k.wire v)) (length d) fits) in
          rw (l, ed, able reads) (put_start d (k.wire v) fits)

  -- the same of what the kind's own calls gave: x is what was read of s, answer, used and value are its parts; no test that comes before room refuses
  pub redo_fixed : {R : Type 0} (answer : R → Answer) (used : R → ℕ) (value : R → k.Value) (s d d' : List ℕ) (x y : R) (w : Written) (r : LineRow)
      → x ≡ y
      → answer y ≡ k.reader.answer s
      → used y ≡ k.reader.used s
      → value y ≡ k.reader.value s
      → Bytes s
      → length s ≤ length d
      → w ≡ written (length (k.wire (value x))) (length d)
      → d' ≡ put d 0 (k.wire (value x))
      → r ≡ redone (answer x) (used x) w.len
      → record { bytes_after : row_in d' r ≡ row_of k.reader k.wire s; len_in_bounds : r.len ≤ length d }
  unfolding answered stored
  redo_fixed answer used value s d d' x y w r e ea eu ev b h ew ed er =
      redo s d d' (answer x) (used x) (value x) None w r b h (ap answer e ∙ ea) (ap used e ∙ eu) (ap value e ∙ ev) (λ reads. refl) ew ed er

  -- the same of what `row_of` promises of its `write`, which writes a record as the kind does
  module _ {F T : Type 0} {g : Once F (T × (MutBor (List ℕ) × Unit {0})) (Written × (MutBor (List ℕ) × Unit {0}))} {f : F} (value : T → k.Value) (s d d' : List ℕ) (x y : Read T) (r : LineRow)
      (e : x ≡ y) (ea : y.answer ≡ k.reader.answer s) (eu : y.used ≡ k.reader.used s) (ev : value y.«record» ≡ k.reader.value s) (b : Bytes s) (h : length s ≤ length d) (wrote : WroteRow g f x d r d') where
    pub row_fixed : ((p q : MutBor (List ℕ)) (w : Written) → g.post f (x.«record», (p, tt)) (w, (q, tt)) → (w ≡ written (length (k.wire (value x.«record»))) (length p.now)) × (q.now ≡ put p.now 0 (k.wire (value x.«record»))))
        → record { bytes_after : Some (row_in d' r) ≡ Some (row_of k.reader k.wire s); len_in_bounds : r.len ≤ length d }
    row_fixed calls =
        let m = calls wrote.shown wrote.left wrote.written wrote.met in
        let row = redo_fixed (λ (x : Read T). x.answer) (λ (x : Read T). x.used) (λ (x : Read T). value x.«record») s d d' x y wrote.written r e ea eu ev b h (rw wrote.shows at m.0) (sym wrote.leaves ∙ (rw wrote.shows at m.1)) wrote.is in
        record { bytes_after = ap Some row.bytes_after; len_in_bounds = row.len_in_bounds }

    pub row_with_texts : (refused : T → Option Answer) → (Reads k.reader s (value x.«record») x.used → refused x.«record» ≡ None)
        → ((p q : MutBor (List ℕ)) (w : Written) → g.post f (x.«record», (p, tt)) (w, (q, tt)) → (w ≡ answered (refused x.«record») (k.wire (value x.«record»)) (length p.now)) × (q.now ≡ stored (refused x.«record») p.now (k.wire (value x.«record»))))
        → record { bytes_after : Some (row_in d' r) ≡ Some (row_of k.reader k.wire s); len_in_bounds : r.len ≤ length d }
    row_with_texts refused able calls =
        let m = calls wrote.shown wrote.left wrote.written wrote.met in
        let row = redo s d d' x.answer x.used (value x.«record») (refused x.«record») wrote.written r b h (ap (λ (x : Read T). x.answer) e ∙ ea) (ap (λ (x : Read T). x.used) e ∙ eu) (ap (λ (x : Read T). value x.«record») e ∙ ev) able (rw wrote.shows at m.0) (sym wrote.leaves ∙ (rw wrote.shows at m.1)) wrote.is in
        record { bytes_after = ap Some row.bytes_after; len_in_bounds = row.len_in_bounds }

-- a row that isn't there, and one that is
pub no_row : (r : Option LineRow) (bs : List ℕ) (o : Option Row) → option_map (row_in bs) r ≡ o → r ≡ None → None ≡ o
no_row r bs o e h = rw h at e

pub a_row : (r : Option LineRow) (bs : List ℕ) (o : Option Row) (x : LineRow) → option_map (row_in bs) r ≡ o → r ≡ Some x → Some (row x.number x.used (take x.len bs)) ≡ o
a_row r bs o x e h = rw h at e

-- the beginning of a list, no longer than asked
pub take_most : (n m : ℕ) (bs : List ℕ) → n ≤ m → length (take n bs) ≤ m
take_most n m bs h = omega (arith, length-take n bs)

-- ---- the payload of a text
pub payload_none : (text : List ℕ) → length text ≡ 0 → payload text ≡ None
unfolding payload
payload_none [] h = refl
payload_none (c ∷ text) h = absurd (omega arith)

-- what finding a payload promises of the text, and of the buffer that it was read into
abbrev pub Finds : List ℕ → List ℕ → Option ℕ → Type 0
Finds text d o = record { text_value : payload text ≡ option_map (λ len. take len d) o; len_bound : IfSome o (λ len. len ≤ 4096) }

-- a length that is given where a test holds
found_if : (t : Bool) (len : ℕ) (text d : List ℕ) → payload text ≡ pick t (Some (take len d)) None → len ≤ 4096 → Finds text d (then_some t len)
found_if true len text d e h = record { text_value = e; len_bound = h }
found_if false len text d e h = record { text_value = e; len_bound = tt }

pub payload_dash : (text d : List ℕ) (o : Option ℕ) → length text ≡ 1 → o ≡ then_some (eqb (get_or text 0 0) 0x2D) 0 → Finds text d o
unfolding payload
payload_dash [] d o h e = absurd (omega arith)
payload_dash (c ∷ []) d o h e = rw e (found_if (eqb c 0x2D) 0 (c ∷ []) d refl (omega arith))
payload_dash (c ∷ b ∷ text) d o h e = absurd (omega arith)

pub payload_pairs : (text d d' : List ℕ) (len : ℕ) (o : Option ℕ) → (length text ≡ 0 → ⊥) → (length text ≡ 1 → ⊥) → length d ≡ 4096 → len ≡ length (pairs (length d) text) → d' ≡ put d 0 (pairs (length d) text) → len ≤ length d
    → o ≡ then_some (eqb (2 * len) (length text)) len → Finds text d' o
unfolding payload all_pairs
payload_pairs [] d d' len o h g l e q r t = absurd (h refl)
payload_pairs (c ∷ []) d d' len o h g l e q r t = absurd (g refl)
payload_pairs (x ∷ y ∷ text) d d' len o h g l e q r t =
    let bs = pairs 4096 (x ∷ y ∷ text) in
    let e' : len ≡ length bs = rw l at e in
    let q' : d' ≡ put d 0 bs = rw l at q in
    let got : take len d' ≡ bs = rw (q', e') (put_start d bs (omega arith)) in
    rw t (found_if (eqb (2 * len) (length (x ∷ y ∷ text))) len (x ∷ y ∷ text) d' (rw (got, e')) (omega arith))

-- the row of a letter and a text, by the payload that was found
pub text_row : (letter : ℕ) (text d : List ℕ) (o o' : Option ℕ) → payload text ≡ option_map (λ len. take len d) o → o ≡ o' → option_and_then (row_for letter) (payload text) ≡ option_and_then (row_for letter) (option_map (λ len. take len d) o')
text_row letter text d o o' e h = rw (e, h)

-- the row of a letter and a text, by its payload
pub good_text : (letter : ℕ) (good : Bool) (text bs : List ℕ) → payload text ≡ pick good (Some bs) None → good ≡ true → option_and_then (row_for letter) (payload text) ≡ row_for letter bs
good_text letter good text bs e g = rw (e, g)

pub bad_text : (letter : ℕ) (good : Bool) (text bs : List ℕ) → payload text ≡ pick good (Some bs) None → good ≡ false → option_and_then (row_for letter) (payload text) ≡ None
bad_text letter good text bs e g = rw (e, g)

-- ---- the row of a line
pub too_short : (line : List ℕ) → length line < 2 → line_row line ≡ None
unfolding line_row
too_short [] h = refl
too_short (c ∷ []) h = refl
too_short (c ∷ d ∷ line) h = absurd (omega arith)

pub no_space : (line : List ℕ) → (get_or line 1 0 ≡ 0x20 → ⊥) → line_row line ≡ None
unfolding line_row
no_space [] h = refl
no_space (c ∷ []) h = refl
no_space (c ∷ d ∷ line) h = rw (ne_eqb _ _ h)

pub shaped : (line : List ℕ) → get_or line 1 0 ≡ 0x20 → line_row line ≡ option_and_then (row_for (get_or line 0 0)) (payload (take (length line - 2) (drop 2 line)))
unfolding line_row
shaped [] h = absurd (omega arith)
shaped (c ∷ []) h = absurd (omega arith)
shaped (c ∷ d ∷ line) h = rw (eq-eqb _ _ h, take_all (suc (suc (length line)) - 2) line (omega arith))
