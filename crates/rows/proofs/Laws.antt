-- Laws of rows and of their pieces. No contract cites this file.
use Prim.Native.Nat.{ℕ, zero, suc, ◌+◌, ◌-◌, ◌≤◌, ◌<◌, min}
use native.Mathlib.Nat.{add-zero}
use native.Mathlib.Omega.{arith}
use mathlib.Core.Path.{◌≡◌, refl, sym, ap, ap₂, ◌∙◌}
use mathlib.Core.Bool.{Bool, true, false}
use mathlib.Core.List.{List, [], ◌∷◌, ◌++◌, flatten, append-nil}
use lib.Dec.{leb, eqb}
use lib.ListN.{length, take, drop, get_or, length-append, length-drop, drop_of_length-le}
use lib.Seq.{take_all, take-length, drop-drop, get_or-drop}
use borrow.Author.Tests.{le-leb, leb-true, leb-false}
use Rattle.slices.specs.Slices.{slice, index_after, index_of}
use Rattle.octets.specs.Octets.{pick, field, big_endian, big_endian_bytes, over, put}
use Rattle.octets.proofs.Laws.{length_big_endian_bytes_law, number_field, put_fits, put_nil, put_put, put_behind, length_put}
use Rattle.hex_text.specs.Hex.{spelled}
use Rattle.rows.specs.Values.{ipv6_value}
use Rattle.rows.specs.declared.Value.{Value}
use Rattle.rows.specs.declared.Value.TheVariants.{Nothing, Hex}
use Rattle.rows.specs.Row.{quoted, length_of, listed, bracketed, shown, led, pieces, numbered, past, ends, puts}

-- ---- pieces, put one behind the other
-- what a call that puts a piece, or some, promises of its answer and its output
abbrev pub One : List ℕ → List ℕ → ℕ → List ℕ → ℕ → Type 0
One p d at d' e = record { value : e ≡ past at p; out_after : d' ≡ put d at p }

abbrev pub Some : List (List ℕ) → List ℕ → ℕ → List ℕ → ℕ → Type 0
Some ps d at d' e = record { value : e ≡ ends at ps; out_after : d' ≡ puts d at ps }

pub ends_append : (ps qs : List (List ℕ)) (at : ℕ) → ends at (ps ++ qs) ≡ ends (ends at ps) qs
unfolding ends
ends_append [] qs at = refl
ends_append (p ∷ ps) qs at = ends_append ps qs (past at p)

pub puts_append : (ps qs : List (List ℕ)) (d : List ℕ) (at : ℕ) → puts d at (ps ++ qs) ≡ puts (puts d at ps) (ends at ps) qs
unfolding ends puts
puts_append [] qs d at = refl
puts_append (p ∷ ps) qs d at = puts_append ps qs (put d at p) (past at p)

-- where there is room for all of them, pieces are put as one text
pub ends_room : (ps : List (List ℕ)) (at : ℕ) → at + length (flatten ps) ≤ 18446744073709551615 → ends at ps ≡ at + length (flatten ps)
unfolding ends flatten
ends_room [] at h = sym (add-zero at)
ends_room (p ∷ ps) at h =
    let n = length-append p (flatten ps) in
    let place : past at p ≡ at + length p = omega arith in
    let rest : ends (at + length p) ps ≡ at + length p + length (flatten ps) = ends_room ps (at + length p) (omega arith) in
    rw place (rest ∙ omega arith)

pub puts_room : (ps : List (List ℕ)) (d : List ℕ) (at : ℕ) → at + length (flatten ps) ≤ length d → length d ≤ 18446744073709551615 → puts d at ps ≡ put d at (flatten ps)
unfolding puts flatten
puts_room [] d at h m = sym (put_nil d at)
puts_room (p ∷ ps) d at h m =
    let n = length-append p (flatten ps) in
    let l = length_put d at p in
    let place : past at p ≡ at + length p = omega arith in
    let rest : puts (put d at p) (at + length p) ps ≡ put (put d at p) (at + length p) (flatten ps) = puts_room ps (put d at p) (at + length p) (omega arith) (omega arith) in
    rw place (rest ∙ put_put d at (at + length p) p (flatten ps) refl (omega arith))

pub some_one : (p d d' : List ℕ) (at e : ℕ) → One p d at d' e → Some (p ∷ []) d at d' e
unfolding ends puts
some_one p d d' at e h = record { value = h.value; out_after = h.out_after }

pub some_more : (p : List ℕ) (ps : List (List ℕ)) (d d1 d2 : List ℕ) (at m e : ℕ) → One p d at d1 m → Some ps d1 m d2 e → Some (p ∷ ps) d at d2 e
unfolding ends puts
some_more p ps d d1 d2 at m e h g =
    record { value = rw (← h.value) g.value; out_after = rw (← h.value, ← h.out_after) g.out_after }

-- what is left, put now, gives the same as all of it, put at first
abbrev pub Left : List (List ℕ) → List ℕ → ℕ → List (List ℕ) → List ℕ → ℕ → Type 0
Left ps d e qs d₀ at = (ends e ps ≡ ends at qs) × (puts d e ps ≡ puts d₀ at qs)

left_one : (p : List ℕ) (ps qs : List (List ℕ)) (d d1 d₀ : List ℕ) (e e1 at : ℕ) → One p d e d1 e1 → Left (p ∷ ps) d e qs d₀ at → Left ps d1 e1 qs d₀ at
unfolding ends puts
left_one p ps qs d d1 d₀ e e1 at h l = (rw h.value l.0, rw (h.value, h.out_after) l.1)

left_some : (xs ps qs : List (List ℕ)) (d d1 d₀ : List ℕ) (e e1 at : ℕ) → Some xs d e d1 e1 → Left (xs ++ ps) d e qs d₀ at → Left ps d1 e1 qs d₀ at
left_some xs ps qs d d1 d₀ e e1 at h l =
    (rw h.value (sym (ends_append xs ps e) ∙ l.0), rw (h.value, h.out_after) (sym (puts_append xs ps d e) ∙ l.1))

pub left_last : (p : List ℕ) (qs : List (List ℕ)) (d d1 d₀ : List ℕ) (e e1 at : ℕ) → One p d e d1 e1 → Left (p ∷ []) d e qs d₀ at → Some qs d₀ at d1 e1
unfolding ends puts
left_last p qs d d1 d₀ e e1 at h l =
    let k : Left [] d1 e1 qs d₀ at = left_one p [] qs d d1 d₀ e e1 at h l in record { value = k.0; out_after = k.1 }

-- ---- places past the end
drop_most : (k m : ℕ) (s : List ℕ) → length s ≤ m → drop (min k m) s ≡ drop k s
drop_most k m s h = go (leb k m) refl
  where
    go : (t : Bool) → leb k m ≡ t → drop (min k m) s ≡ drop k s
    go true e = let l = leb-true k m e in let q : min k m ≡ k = omega arith in rw q
    go false e = let l = leb-false k m e in drop_of_length-le s {i = min k m} (omega arith) ∙ sym (drop_of_length-le s {i = k} (omega arith))

take_most : (k : ℕ) (s : List ℕ) → take (min k (length s)) s ≡ take k s
take_most k s = go (leb k (length s)) refl
  where
    go : (t : Bool) → leb k (length s) ≡ t → take (min k (length s)) s ≡ take k s
    go true e = let l = leb-true k (length s) e in let q : min k (length s) ≡ k = omega arith in rw q
    go false e = let l = leb-false k (length s) e in take_all (min k (length s)) s (omega arith) ∙ sym (take_all k s (omega arith))

-- ---- values
-- what `number` gives of the bytes of an address, and of a part of at most eight bytes
pub ipv4_number : (octets : List ℕ) (x : ℕ) → length octets ≡ 4 → x ≡ pick (leb (length octets) 8) (big_endian octets) 0 → x ≡ big_endian octets
ipv4_number octets x h e = rw (le-leb (length octets) 8 (omega arith)) at e

pub part_number : (s p : List ℕ) (at w x : ℕ) → w ≤ 8 → p ≡ take w (drop at s) → x ≡ pick (leb (length p) 8) (big_endian p) 0 → x ≡ big_endian (take w (drop at s))
part_number s p at w x h q e = (rw q at e) ∙ number_field s at w h

pub ipv6_hex : (octets p q : List ℕ) (x y : ℕ) → p ≡ take 8 (drop 0 octets) → x ≡ pick (leb (length p) 8) (big_endian p) 0
    → q ≡ take 8 (drop 8 octets) → y ≡ pick (leb (length q) 8) (big_endian q) 0 → Hex 16 x y ≡ ipv6_value octets
ipv6_hex octets p q x y ep ex eq ey = ap₂ (Hex 16) (part_number octets p 0 8 x (omega arith) ep ex) (part_number octets q 8 8 y (omega arith) eq ey)

-- ---- the forms of a value
-- two numbers of eight bytes, put into sixteen, from a place on
pub sixteen : (d d1 d2 xs ys : List ℕ) (k : ℕ) → length d ≡ 16 → length xs ≡ 8 → length ys ≡ 8 → d1 ≡ put d 0 xs → d2 ≡ put d1 8 ys → take 16 (drop k d2) ≡ drop k (xs ++ ys)
unfolding over
sixteen d d1 d2 xs ys k l lx ly e1 e2 =
    let n = length-append xs ys in
    let rest : drop (0 + length (xs ++ ys)) d ≡ [] = drop_of_length-le d {i = 0 + length (xs ++ ys)} (omega arith) in
    let all : d2 ≡ xs ++ ys = e2 ∙ put_behind d d1 0 8 xs ys e1 (omega arith) (omega arith) ∙ put_fits d 0 (xs ++ ys) (omega arith) ∙ rw rest (append-nil (xs ++ ys)) in
    rw all (take_all 16 (drop k (xs ++ ys)) (omega (arith, length-drop k (xs ++ ys))))

-- the last of their bytes, in hex
pub in_hex : (d d1 d2 p o o' : List ℕ) (high low width k at e : ℕ) → length d ≡ 16 → d1 ≡ put d 0 (big_endian_bytes 8 high) → d2 ≡ put d1 8 (big_endian_bytes 8 low)
    → k ≡ 16 - width → p ≡ take 16 (drop k d2) → One (spelled p) o at o' e
    → One (spelled (drop (16 - width) (big_endian_bytes 8 high ++ big_endian_bytes 8 low))) o at o' e
in_hex d d1 d2 p o o' high low width k at e l e1 e2 ek ep h =
    let same : p ≡ drop (16 - width) (big_endian_bytes 8 high ++ big_endian_bytes 8 low) =
    ep ∙ sixteen d d1 d2 _ _ k l (length_big_endian_bytes_law 8 high) (length_big_endian_bytes_law 8 low) e1 e2 ∙ ap (λ (j : ℕ). drop j (big_endian_bytes 8 high ++ big_endian_bytes 8 low)) ek in
    rw same at h

pub some_spelled : (p q d d' : List ℕ) (at e : ℕ) → p ≡ q → One (spelled p) d at d' e → Some (spelled q ∷ []) d at d' e
some_spelled p q d d' at e h g = some_one (spelled q) d d' at e (rw h at g)

pub some_quoted : (p q d d' : List ℕ) (at e : ℕ) → p ≡ q → Some (quoted p) d at d' e → Some (quoted q) d at d' e
some_quoted p q d d' at e h g = rw h at g

-- ---- the texts of a list
pub bracketed_none : (n : ℕ) (s : List ℕ) → n ≡ 0 → bracketed n s ≡ (0x5B ∷ 0x5D ∷ []) ∷ []
unfolding bracketed
bracketed_none zero s h = refl
bracketed_none (suc n) s h = absurd (omega arith)

pub bracketed_some : (n : ℕ) (s : List ℕ) → (n ≡ 0 → ⊥) → bracketed n s ≡ listed 0x5B n s
unfolding bracketed
bracketed_some zero s h = absurd (h refl)
bracketed_some (suc n) s h = refl

-- one text more
module _ (s : List ℕ) (next len from next' : ℕ) (small : length s ≤ 18446744073709551615) (said : len ≡ length_of (drop next s)) (behind : from ≡ min (next + 2) 18446744073709551615)
    (after : next' ≡ min (from + len) 18446744073709551615) where
  text_from : drop from s ≡ drop 2 (drop next s)
  text_from = rw behind (drop_most (next + 2) 18446744073709551615 s small) ∙ sym (drop-drop 2 next s)

  rest_from : drop next' s ≡ drop (2 + len) (drop next s)
  rest_from =
      rw after (drop_most (from + len) 18446744073709551615 s small)
      ∙ sym (drop-drop len from s)
      ∙ ap (drop len) text_from
      ∙ drop-drop len 2 (drop next s)

  pub list_more : (mark n : ℕ) (qs : List (List ℕ)) (p d d1 d₀ : List ℕ) (e e1 at : ℕ) → 0 < n
      → p ≡ take len (drop from s)
      → Some ((mark ∷ []) ∷ quoted p) d e d1 e1
      → Left (listed mark n (drop next s)) d e qs d₀ at
      → Left (listed 0x2C (n - 1) (drop next' s)) d1 e1 qs d₀ at
  unfolding listed
  list_more mark zero qs p d d1 d₀ e e1 at h q g l = absurd (omega arith)
  list_more mark (suc n) qs p d d1 d₀ e e1 at h q g l =
      let less : suc n - 1 ≡ n = omega arith in
      rw (less, rest_from, said)
      (left_some ((mark ∷ []) ∷ quoted (field (drop next s) 2 (length_of (drop next s)))) (listed 0x2C n (drop (2 + length_of (drop next s)) (drop next s))) qs d d1 d₀ e e1 at (rw (q, text_from, said) at g) l)

pub list_last : (mark n : ℕ) (s : List ℕ) (qs : List (List ℕ)) (d d1 d₀ : List ℕ) (e e1 at : ℕ) → n ≤ 0 → One (0x5D ∷ []) d e d1 e1 → Left (listed mark n s) d e qs d₀ at → Some qs d₀ at d1 e1
unfolding listed
list_last mark zero s qs d d1 d₀ e e1 at h g l = left_last (0x5D ∷ []) qs d d1 d₀ e e1 at g l
list_last mark (suc n) s qs d d1 d₀ e e1 at h g l = absurd (omega arith)

-- ---- the pieces of a row
pieces_last : (words : List ℕ) (values : List Value) (lent : List ℕ) → index_of 0x23 words ≡ length words → pieces words values lent ≡ words ∷ []
unfolding pieces led index_of index_after
pieces_last [] values lent h = refl
pieces_last (c ∷ words) values lent h = go (eqb c 0x23) h (pieces_last words values lent)
  where
    go : (t : Bool) → index_after t (index_of 0x23 words) ≡ suc (length words) → (index_of 0x23 words ≡ length words → pieces words values lent ≡ words ∷ [])
        → pick t ([] ∷ (shown (get_or values 0 Nothing) lent ++ pieces words (drop 1 values) lent)) (led c (pieces words values lent)) ≡ (c ∷ words) ∷ []
    go true h f = absurd (omega arith)
    go false h f = rw (f (omega arith))

pieces_more : (words : List ℕ) (values : List Value) (lent : List ℕ) → index_of 0x23 words < length words
    → pieces words values lent ≡ take (index_of 0x23 words) words ∷ (shown (get_or values 0 Nothing) lent ++ pieces (drop (suc (index_of 0x23 words)) words) (drop 1 values) lent)
unfolding pieces led index_of index_after
pieces_more [] values lent h = absurd (omega arith)
pieces_more (c ∷ words) values lent h = go (eqb c 0x23) h (pieces_more words values lent)
  where
    go : (t : Bool) → index_after t (index_of 0x23 words) < suc (length words)
        → (index_of 0x23 words < length words → pieces words values lent ≡ take (index_of 0x23 words) words ∷ (shown (get_or values 0 Nothing) lent ++ pieces (drop (suc (index_of 0x23 words)) words) (drop 1 values) lent))
        → pick t ([] ∷ (shown (get_or values 0 Nothing) lent ++ pieces words (drop 1 values) lent)) (led c (pieces words values lent))
        ≡ take (index_after t (index_of 0x23 words)) (c ∷ words) ∷ (shown (get_or values 0 Nothing) lent ++ pieces (drop (suc (index_after t (index_of 0x23 words))) (c ∷ words)) (drop 1 values) lent)
    go true h f = refl
    go false h f = rw (f (omega arith))

-- a piece of words and the value behind it, and the last piece
module _ (words : List ℕ) (from to : ℕ) (start : from ≤ length words) (found : to ≡ from + index_of 0x23 (slice from (length words) words)) where
  index : index_of 0x23 (drop from words) ≡ to - from
  unfolding slice
  index = let e : index_of 0x23 (drop from (take (length words) words)) ≡ index_of 0x23 (drop from words) = rw take-length in omega arith

  module _ (values : List Value) (lent : List ℕ) (i : ℕ) (qs : List (List ℕ)) (p d d1 d₀ : List ℕ) (e e1 at : ℕ) (part : p ≡ take (to - from) (drop from words)) (g : One p d e d1 e1)
      (l : Left (pieces (drop from words) (drop i values) lent) d e qs d₀ at) where
    pub row_last : to ≡ length words → Some qs d₀ at d1 e1
    row_last h =
        let long = length-drop from words in
        let one : pieces (drop from words) (drop i values) lent ≡ p ∷ [] =
        pieces_last (drop from words) (drop i values) lent (omega (arith, index)) ∙ ap (λ (w : List ℕ). w ∷ []) (sym (part ∙ take_all (to - from) (drop from words) (omega arith))) in
        left_last p qs d d1 d₀ e e1 at g (rw one at l)

    pub row_more : (v : Value) (d2 : List ℕ) (e2 : ℕ) → (to ≡ length words → ⊥) → to ≤ length words → v ≡ get_or values i Nothing → Some (shown v lent) d1 e1 d2 e2
        → Left (pieces (drop (to + 1) words) (drop (i + 1) values) lent) d2 e2 qs d₀ at
    row_more v d2 e2 h r q k =
        let long = length-drop from words in
        let place : from + suc (to - from) ≡ to + 1 = omega (arith, index) in
        let next : get_or (drop i values) 0 Nothing ≡ v = get_or-drop i values 0 Nothing ∙ ap (λ (j : ℕ). get_or values j Nothing) (add-zero i) ∙ sym q in
        let more : drop (suc (to - from)) (drop from words) ≡ drop (to + 1) words = drop-drop (suc (to - from)) from words ∙ ap (λ (j : ℕ). drop j words) place in
        let two : pieces (drop from words) (drop i values) lent ≡ p ∷ (shown v lent ++ pieces (drop (to + 1) words) (drop (i + 1) values) lent) =
        pieces_more (drop from words) (drop i values) lent (omega (arith, index)) ∙ rw (index, more, next, drop-drop 1 i values, part) in
        left_some (shown v lent) (pieces (drop (to + 1) words) (drop (i + 1) values) lent) qs d1 d2 d₀ e1 e2 at k
        (left_one p (shown v lent ++ pieces (drop (to + 1) words) (drop (i + 1) values) lent) qs d d1 d₀ e e1 at g (rw two at l))

-- ---- the words of a row, by its number
module _ (words : List ℕ) (from to : ℕ) (start : from ≤ length words) (end : to ≡ min (from + suc (index_of 0x0A (drop from words))) (length words)) where
  pub numbered_more : (n : ℕ) → 0 < n → numbered (n - 1) (drop to words) ≡ numbered n (drop from words)
  unfolding numbered
  numbered_more zero h = absurd (omega arith)
  numbered_more (suc n) h =
      let less : suc n - 1 ≡ n = omega arith in
      rw (less, end) (ap (numbered n) (drop_most (from + suc (index_of 0x0A (drop from words))) (length words) words (omega arith) ∙ sym (drop-drop (suc (index_of 0x0A (drop from words))) from words)))

  pub numbered_last : (n k : ℕ) (p q : List ℕ) → n ≤ 0 → k ≡ to - from → p ≡ take k (drop from words) → numbered n (drop from words) ≡ q → p ≡ q
  unfolding numbered
  numbered_last zero k p q h ek ep e =
      let long = length-drop from words in
      let wide : k ≡ min (suc (index_of 0x0A (drop from words))) (length (drop from words)) = omega arith in
      ep ∙ rw wide (take_most (suc (index_of 0x0A (drop from words))) (drop from words)) ∙ e
  numbered_last (suc n) k p q h ek ep e = absurd (omega arith)

-- the end of the line that a place is in
pub line_end : (words : List ℕ) (from f a r : ℕ) → length words ≤ 18446744073709551615 → f ≡ from + index_of 0x0A (slice from (length words) words) → a ≡ min (f + 1) 18446744073709551615 → r ≡ min a (length words)
    → r ≡ min (from + suc (index_of 0x0A (drop from words))) (length words)
unfolding slice
line_end words from f a r small ef ea er =
    let e : index_of 0x0A (drop from (take (length words) words)) ≡ index_of 0x0A (drop from words) = rw take-length in
    let next : f + 1 ≡ from + suc (index_of 0x0A (drop from words)) = omega arith in
    let least : min a (length words) ≡ min (f + 1) (length words) = omega arith in
    er ∙ least ∙ ap (λ (k : ℕ). min k (length words)) next
