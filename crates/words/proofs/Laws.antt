-- Laws of words, numbers and payloads. No contract cites this file.
use Prim.Native.Nat.{ℕ, zero, suc, ◌+◌, ◌-◌, ◌*◌, ◌/◌, ◌%◌, ◌^◌, ◌≤◌, ◌<◌}
use native.Mathlib.Numerals.{add-one}
use native.Mathlib.Omega.{arith}
use mathlib.Core.Path.{◌≡◌, refl, sym, ap, ap₂, ◌∙◌}
use mathlib.Core.Bool.{Bool, true, false, not, ◌&&◌, and-false}
use mathlib.Core.List.{List, [], ◌∷◌, ◌++◌, append-nil}
use Rattle.std.specs.Prelude.{Option, None, Some, SomeIff, option_map, cond, take_while}
use Rattle.std.specs.List.{onto_first, slice_split}
use Rattle.std.proofs.lemmas.List.Sums.{take_while-cons}
use lib.Dec.{eqb, leb, ltb}
use lib.ListN.{length, take, drop, get_or, replicate, length-drop, drop_of_length-le}
use lib.Seq.{take_all, take-length, drop-drop, drop-cons, append_snoc}
use borrow.Author.Tests.{lt-ltb, le-ltb, ltb-true, ltb-false, le-leb, eq-eqb, ne_eqb, eqb-true, eqb-false, not-true, not-false}
use Rattle.slices.specs.Slices.{slice, index_after, index_of}
use Rattle.octets.specs.Octets.{pick, field, big_endian, presence, put}
use Rattle.octets.proofs.Laws.{put_start}
use Rattle.hex_text.specs.Hex.{digit, within, pairs, tens, decimal}
use Rattle.hex_text.proofs.Laws.{length_pairs, decimal_some as decimal-digits}
use Rattle.words.specs.Words.{cut, words_of, same, place_of, are_digits, spells, decimal_of, are_pairs, hexadecimal_of, payload_of}
use Rattle.words.specs.Steps.{with_digit}

-- ---- the same word
same_refl : (s : List ℕ) → same s s ≡ true
unfolding same
same_refl [] = refl
same_refl (c ∷ s) = rw (eq-eqb c c refl) (same_refl s)

same_is : (s t : List ℕ) → same s t ≡ true → s ≡ t
unfolding same
same_is [] [] e = refl
same_is [] (d ∷ t) e = let z : ◌≡◌ {A = ℕ} 0 1 = cc in absurd (omega arith)
same_is (c ∷ s) [] e = let z : ◌≡◌ {A = ℕ} 0 1 = cc in absurd (omega arith)
same_is (c ∷ s) (d ∷ t) e = go (eqb c d) refl e (same_is s t)
  where
    go : (b : Bool) → eqb c d ≡ b → b && same s t ≡ true → (same s t ≡ true → s ≡ t) → (c ∷ s) ≡ (d ∷ t)
    go true q e f = ap₂ (λ (x : ℕ) (l : List ℕ). x ∷ l) (eqb-true c d q) (f e)
    go false q e f = let z : ◌≡◌ {A = ℕ} 0 1 = cc in absurd (omega arith)

-- what `check::same` says
pub told : (s t : List ℕ) (r : Bool) → (r ≡ true → s ≡ t) × (s ≡ t → r ≡ true) → r ≡ same s t
told s t true h = sym (rw (h.0 refl) (same_refl t))
told s t false h = go (same s t) refl
  where
    go : (b : Bool) → same s t ≡ b → false ≡ b
    go true e = h.1 (same_is s t e)
    go false e = refl

-- ---- words
cut_last : (w s : List ℕ) → index_of 0x20 s ≡ length s → cut w s ≡ (w ++ s) ∷ []
unfolding cut index_of index_after
cut_last w [] h = ap (λ (l : List ℕ). l ∷ []) (sym (append-nil w))
cut_last w (c ∷ s) h = go (eqb c 0x20) h (cut_last (w ++ (c ∷ [])) s)
  where
    go : (t : Bool) → index_after t (index_of 0x20 s) ≡ suc (length s)
        → (index_of 0x20 s ≡ length s → cut (w ++ (c ∷ [])) s ≡ ((w ++ (c ∷ [])) ++ s) ∷ [])
        → pick t (w ∷ cut [] s) (cut (w ++ (c ∷ [])) s) ≡ (w ++ (c ∷ s)) ∷ []
    go true h f = absurd (omega arith)
    go false h f = f (omega arith) ∙ ap (λ (l : List ℕ). l ∷ []) (append_snoc w c s)

cut_more : (w s : List ℕ) → index_of 0x20 s < length s → cut w s ≡ (w ++ take (index_of 0x20 s) s) ∷ cut [] (drop (suc (index_of 0x20 s)) s)
unfolding cut index_of index_after
cut_more w [] h = absurd (omega arith)
cut_more w (c ∷ s) h = go (eqb c 0x20) h (cut_more (w ++ (c ∷ [])) s)
  where
    go : (t : Bool) → index_after t (index_of 0x20 s) < suc (length s)
        → (index_of 0x20 s < length s → cut (w ++ (c ∷ [])) s ≡ ((w ++ (c ∷ [])) ++ take (index_of 0x20 s) s) ∷ cut [] (drop (suc (index_of 0x20 s)) s))
        → pick t (w ∷ cut [] s) (cut (w ++ (c ∷ [])) s)
        ≡ (w ++ take (index_after t (index_of 0x20 s)) (c ∷ s)) ∷ cut [] (drop (suc (index_after t (index_of 0x20 s))) (c ∷ s))
    go true h f = ap (λ (l : List ℕ). l ∷ cut [] s) (sym (append-nil w))
    go false h f = f (omega arith) ∙ ap (λ (l : List ℕ). l ∷ cut [] (drop (suc (index_of 0x20 s)) s)) (append_snoc w c (take (index_of 0x20 s) s))

words_start : (s : List ℕ) → index_of 0x20 s ≤ length s → words_of s ≡ take (index_of 0x20 s) s ∷ drop 1 (words_of s)
words_start s h = go (eqb (index_of 0x20 s) (length s)) refl
  where
    go : (t : Bool) → eqb (index_of 0x20 s) (length s) ≡ t → words_of s ≡ take (index_of 0x20 s) s ∷ drop 1 (words_of s)
    go true e =
        let q = eqb-true (index_of 0x20 s) (length s) e in
        rw (cut_last [] s q) (ap (λ (l : List ℕ). l ∷ []) (sym (take_all (index_of 0x20 s) s (omega arith))))
    go false e = rw (cut_more [] s (omega (arith, eqb-false (index_of 0x20 s) (length s) e)))

-- where `find` finds a byte
found_at : (b : ℕ) (s : List ℕ) (from to : ℕ) → to ≡ from + index_of b (slice from (length s) s) → index_of b (drop from s) ≡ to - from
unfolding slice
found_at b s from to h = let e : index_of b (drop from (take (length s) s)) ≡ index_of b (drop from s) = rw take-length in omega arith

pub first_word : (line p : List ℕ) (end : ℕ) → end ≡ 0 + index_of 0x20 (slice 0 (length line) line) → end ≤ length line → p ≡ field line 0 (end - 0) → p ≡ get_or (words_of line) 0 []
first_word line p end found most part =
    let k : index_of 0x20 line ≡ end - 0 = found_at 0x20 line 0 end found in
    part ∙ sym (rw (words_start line (omega arith), k))

-- a turn of the search for a word
module _ (list word p : List ℕ) (at end count n : ℕ) (b : Bool) (found : end ≡ at + index_of 0x20 (slice at (length list) list)) (most : end ≤ length list)
    (part : p ≡ field list at (end - at)) (test : (b ≡ true → p ≡ word) × (p ≡ word → b ≡ true)) (start : at ≤ length list)
    (left : count + place_of word (words_of (drop at list)) ≡ n) where
  k : index_of 0x20 (drop at list) ≡ end - at
  k = found_at 0x20 list at end found

  first : take (index_of 0x20 (drop at list)) (drop at list) ≡ p
  first = rw k (sym part)

  pub place_here : b ≡ true → count ≡ n
  unfolding place_of
  place_here h =
      let word-here : words_of (drop at list) ≡ p ∷ drop 1 (words_of (drop at list)) =
      words_start (drop at list) (omega (arith, k, length-drop at list)) ∙ ap (λ (l : List ℕ). l ∷ drop 1 (words_of (drop at list))) first in
      let none : place_of word (words_of (drop at list)) ≡ 0 = rw (word-here, ← told p word b test, h) in
      omega (arith, left, none)

  pub place_last : b ≡ false → end ≡ length list → count + 1 ≡ n
  unfolding place_of
  place_last h e =
      let one : words_of (drop at list) ≡ p ∷ [] =
      cut_last [] (drop at list) (omega (arith, k, length-drop at list))
      ∙ ap (λ (l : List ℕ). l ∷ []) (sym (take_all (index_of 0x20 (drop at list)) (drop at list) (omega (arith, k, length-drop at list))) ∙ first) in
      let none : place_of word (words_of (drop at list)) ≡ 1 = rw (one, ← told p word b test, h) in
      omega (arith, left, none)

  pub place_more : b ≡ false → (end ≡ length list → ⊥) → count + 1 + place_of word (words_of (drop (end + 1) list)) ≡ n
  unfolding place_of
  place_more h e =
      let place : at + suc (end - at) ≡ end + 1 = omega (arith, k, found) in
      let rest : drop (suc (index_of 0x20 (drop at list))) (drop at list) ≡ drop (end + 1) list =
      rw k (drop-drop (suc (end - at)) at list ∙ ap (λ (j : ℕ). drop j list) place) in
      let two : words_of (drop at list) ≡ p ∷ words_of (drop (end + 1) list) =
      cut_more [] (drop at list) (omega (arith, k, length-drop at list)) ∙ rw (first, rest) in
      let more : place_of word (words_of (drop at list)) ≡ suc (place_of word (words_of (drop (end + 1) list))) = rw (two, ← told p word b test, h) in
      omega (arith, left, more)

-- the words are the parts between spaces
module _ (w : List ℕ) where
  abbrev onto : List (List ℕ) → List (List ℕ)
  onto [] = w ∷ []
  onto (part ∷ parts) = (w ++ part) ∷ parts

onto_none : (p : ℕ → Bool) (s : List ℕ) → onto [] (slice_split p s) ≡ slice_split p s
onto_none p [] = refl
onto_none p (c ∷ s) = go (p c) (slice_split p s)
  where
    go : (t : Bool) (parts : List (List ℕ)) → onto [] (cond t ([] ∷ parts) (onto_first c parts)) ≡ cond t ([] ∷ parts) (onto_first c parts)
    go true parts = refl
    go false [] = refl
    go false (part ∷ parts) = refl

onto_more : (w : List ℕ) (c : ℕ) (parts : List (List ℕ)) → onto (w ++ (c ∷ [])) parts ≡ onto w (onto_first c parts)
onto_more w c [] = refl
onto_more w c (part ∷ parts) = ap (λ (l : List ℕ). l ∷ parts) (append_snoc w c part)

cut_parts : (w s : List ℕ) → cut w s ≡ onto w (slice_split (λ (c : ℕ). eqb c 0x20) s)
unfolding cut
cut_parts w [] = ap (λ (l : List ℕ). l ∷ []) (sym (append-nil w))
cut_parts w (c ∷ s) =
    go (eqb c 0x20) (slice_split (λ (c : ℕ). eqb c 0x20) s) (cut_parts [] s ∙ onto_none (λ (c : ℕ). eqb c 0x20) s) (cut_parts (w ++ (c ∷ [])) s)
  where
    go : (t : Bool) (parts : List (List ℕ)) → cut [] s ≡ parts → cut (w ++ (c ∷ [])) s ≡ onto (w ++ (c ∷ [])) parts
        → pick t (w ∷ cut [] s) (cut (w ++ (c ∷ [])) s) ≡ onto w (cond t ([] ∷ parts) (onto_first c parts))
    go true parts e f = ap₂ (λ (l : List ℕ) (ps : List (List ℕ)). l ∷ ps) (sym (append-nil w)) e
    go false parts e f = f ∙ onto_more w c parts

place_count : (word : List ℕ) (l : List (List ℕ)) → length (take_while (λ (w : List ℕ). not (same w word)) l) ≡ place_of word l
unfolding place_of
place_count word [] = refl
place_count word (w ∷ l) = ap length (take_while-cons (λ (w : List ℕ). not (same w word)) w l) ∙ go (same w word) (place_count word l)
  where
    go : (t : Bool) → length (take_while (λ (w : List ℕ). not (same w word)) l) ≡ place_of word l
        → length (cond (not t) (w ∷ take_while (λ (w : List ℕ). not (same w word)) l) []) ≡ pick t 0 (suc (place_of word l))
    go true e = refl
    go false e = ap suc e

-- how many words stand before a word
pub place_split : (word list : List ℕ) (n : ℕ) → n ≡ length (take_while (λ (w : List ℕ). not (same w word)) (slice_split (λ (c : ℕ). eqb c 0x20) list)) → n ≡ place_of word (words_of list)
place_split word list n e =
    e ∙ place_count word (slice_split (λ (c : ℕ). eqb c 0x20) list) ∙ ap (place_of word) (sym (cut_parts [] list ∙ onto_none (λ (c : ℕ). eqb c 0x20) list))

-- ---- the sign behind a key
pub sign_found : (word : List ℕ) (f : ℕ) → f ≡ 0 + index_of 0x3D (slice 0 (length word) word) → f + 1 ≡ suc (index_of 0x3D word)
sign_found word f h = omega (arith, found_at 0x3D word 0 f h)

pub up_to_sign : (word p : List ℕ) (k : ℕ) → k ≡ suc (index_of 0x3D word) → p ≡ take k word → p ≡ take (suc (index_of 0x3D word)) word
up_to_sign word p k e h = h ∙ ap (λ (j : ℕ). take j word) e

pub behind_sign_law : (word p : List ℕ) (k : ℕ) → k ≡ suc (index_of 0x3D word) → p ≡ take (length word) (drop k word) → p ≡ drop (suc (index_of 0x3D word)) word
behind_sign_law word p k e h = h ∙ take_all (length word) (drop k word) (omega (arith, length-drop k word)) ∙ ap (λ (j : ℕ). drop j word) e

-- ---- numbers in decimal
-- the number of a text behind n
abbrev pub number_from : ℕ → List ℕ → Option ℕ
number_from n s = presence (are_digits s && ltb (spells n s) (2 ^ 64)) (spells n s)

grows : (n : ℕ) (s : List ℕ) → n ≤ spells n s
unfolding spells
grows n [] = omega arith
grows n (c ∷ s) = omega (arith, grows (n * 10 + (c - 0x30)) s)

-- what a further digit gives, from the tests
pub digit_no : (n c : ℕ) → within 0x30 0x39 c ≡ false → with_digit n c ≡ None
unfolding with_digit presence
digit_no n c h = rw h

module _ (n c : ℕ) (low : 0x30 ≤ c) (high : c ≤ 0x39) where
  is_digit : within 0x30 0x39 c ≡ true
  is_digit = rw (le-leb 0x30 c low, le-leb c 0x39 high)

module _ (n c : ℕ) (is_digit : within 0x30 0x39 c ≡ true) where
  pub digit_over : 2 ^ 64 ≤ n * 10 + (c - 0x30) → with_digit n c ≡ None
  unfolding with_digit presence
  digit_over h = rw (is_digit, le-ltb (n * 10 + (c - 0x30)) (2 ^ 64) h)

  digit_yes : n * 10 + (c - 0x30) < 2 ^ 64 → with_digit n c ≡ Some (n * 10 + (c - 0x30))
  unfolding with_digit presence
  digit_yes h = rw (is_digit, lt-ltb (n * 10 + (c - 0x30)) (2 ^ 64) h)

  -- a sum that is there where it fits
  pub digit_sum : (r : Option ℕ) (m : ℕ) → m ≡ n * 10 → SomeIff r (m + (c - 0x30) < 2 ^ 64) (m + (c - 0x30)) → r ≡ with_digit n c
  digit_sum None m e h = sym (digit_over (omega (arith, h)))
  digit_sum (Some x) m e h = ap Some (h.1 ∙ ap (λ (k : ℕ). k + (c - 0x30)) e) ∙ sym (digit_yes (omega (arith, h.0)))

number_more : (n m c : ℕ) (s : List ℕ) → with_digit n c ≡ Some m → number_from n (c ∷ s) ≡ number_from m s
unfolding with_digit presence are_digits spells
number_more n m c s e = go (within 0x30 0x39 c) (ltb (n * 10 + (c - 0x30)) (2 ^ 64)) e
  where
    go : (t u : Bool) → pick (t && u) (Some (n * 10 + (c - 0x30))) None ≡ Some m
        → pick ((t && are_digits s) && ltb (spells (n * 10 + (c - 0x30)) s) (2 ^ 64)) (Some (spells (n * 10 + (c - 0x30)) s)) None
        ≡ pick (are_digits s && ltb (spells m s) (2 ^ 64)) (Some (spells m s)) None
    go true true e = let q : n * 10 + (c - 0x30) ≡ m = cc in rw q
    go true false e = let z : ◌≡◌ {A = ℕ} 0 1 = cc in absurd (omega arith)
    go false u e = let z : ◌≡◌ {A = ℕ} 0 1 = cc in absurd (omega arith)

number_fits : (n m c : ℕ) → with_digit n c ≡ Some m → m < 2 ^ 64
unfolding with_digit presence
number_fits n m c e = go (within 0x30 0x39 c) (ltb (n * 10 + (c - 0x30)) (2 ^ 64)) refl e
  where
    go : (t u : Bool) → ltb (n * 10 + (c - 0x30)) (2 ^ 64) ≡ u → pick (t && u) (Some (n * 10 + (c - 0x30))) None ≡ Some m → m < 2 ^ 64
    go true true f e = let q : n * 10 + (c - 0x30) ≡ m = cc in rw q at (ltb-true (n * 10 + (c - 0x30)) (2 ^ 64) f)
    go true false f e = let z : ◌≡◌ {A = ℕ} 0 1 = cc in absurd (omega arith)
    go false u f e = let z : ◌≡◌ {A = ℕ} 0 1 = cc in absurd (omega arith)

number_stop : (n c : ℕ) (s : List ℕ) → with_digit n c ≡ None → number_from n (c ∷ s) ≡ None
unfolding with_digit presence are_digits spells
number_stop n c s e = go (within 0x30 0x39 c) (ltb (n * 10 + (c - 0x30)) (2 ^ 64)) refl e
  where
    go : (t u : Bool) → ltb (n * 10 + (c - 0x30)) (2 ^ 64) ≡ u → pick (t && u) (Some (n * 10 + (c - 0x30))) None ≡ None
        → pick ((t && are_digits s) && ltb (spells (n * 10 + (c - 0x30)) s) (2 ^ 64)) (Some (spells (n * 10 + (c - 0x30)) s)) None ≡ None
    go true true f e = let z : ◌≡◌ {A = ℕ} 0 1 = cc in absurd (omega arith)
    go true false f e =
        let big : 2 ^ 64 ≤ n * 10 + (c - 0x30) = ltb-false (n * 10 + (c - 0x30)) (2 ^ 64) f in
        let bigger : 2 ^ 64 ≤ spells (n * 10 + (c - 0x30)) s = omega (arith, grows (n * 10 + (c - 0x30)) s) in
        rw (le-ltb (spells (n * 10 + (c - 0x30)) s) (2 ^ 64) bigger, and-false (are_digits s))
    go false u f e = refl

pub decimal_none : (text : List ℕ) → length text ≡ 0 → decimal_of text ≡ None
unfolding decimal_of presence
decimal_none [] h = refl
decimal_none (c ∷ s) h = absurd (omega arith)

pub decimal_some : (text : List ℕ) → (length text ≡ 0 → ⊥) → number_from 0 text ≡ decimal_of text
unfolding decimal_of
decimal_some [] h = absurd (h refl)
decimal_some (c ∷ s) h = rw (lt-ltb 0 (suc (length s)) (omega arith))

-- a turn of the loop
module _ (text : List ℕ) (n i : ℕ) (more : i < length text) (left : number_from n (drop i text) ≡ decimal_of text) where
  pub decimal_stop : with_digit n (get_or text i 0) ≡ None → None ≡ decimal_of text
  decimal_stop bad = sym (number_stop n (get_or text i 0) (drop (suc i) text) bad) ∙ ap (number_from n) (sym (drop-cons text i 0 more)) ∙ left

  pub decimal_fits : (m : ℕ) → with_digit n (get_or text i 0) ≡ Some m → m < 2 ^ 64
  decimal_fits m good = number_fits n m (get_or text i 0) good

  pub decimal_more : (m : ℕ) → with_digit n (get_or text i 0) ≡ Some m → number_from m (drop (i + 1) text) ≡ decimal_of text
  decimal_more m good =
      rw add-one (sym (number_more n m (get_or text i 0) (drop (suc i) text) good) ∙ ap (number_from n) (sym (drop-cons text i 0 more)) ∙ left)

pub decimal_all : (text : List ℕ) (n i : ℕ) → length text ≤ i → n < 2 ^ 64 → number_from n (drop i text) ≡ decimal_of text → Some n ≡ decimal_of text
unfolding presence are_digits spells
decimal_all text n i end fits left =
    let none : drop i text ≡ [] = drop_of_length-le text {i = i} end in
    let all : number_from n [] ≡ Some n = rw (lt-ltb n (2 ^ 64) fits) in
    sym all ∙ ap (number_from n) (sym none) ∙ left

-- ---- a number in decimal is read back
spells_last : (n c : ℕ) (s : List ℕ) → spells n (s ++ (c ∷ [])) ≡ spells n s * 10 + (c - 0x30)
unfolding spells
spells_last n c [] = refl
spells_last n c (d ∷ s) = spells_last (n * 10 + (d - 0x30)) c s

digits_last : (c : ℕ) (s : List ℕ) → within 0x30 0x39 c ≡ true → are_digits s ≡ true → are_digits (s ++ (c ∷ [])) ≡ true
unfolding are_digits
digits_last c [] h e = rw h
digits_last c (d ∷ s) h e = go (within 0x30 0x39 d) e (digits_last c s h)
  where
    go : (t : Bool) → t && are_digits s ≡ true → (are_digits s ≡ true → are_digits (s ++ (c ∷ [])) ≡ true) → t && are_digits (s ++ (c ∷ [])) ≡ true
    go true e f = f e
    go false e f = e

-- a digit below ten
module _ (n : ℕ) (h : n < 10) where
  digit_is : digit n ≡ 0x30 + n
  unfolding digit
  digit_is = rw (lt-ltb n 10 h)

  digit_within : within 0x30 0x39 (digit n) ≡ true
  digit_within = rw (digit_is, le-leb 0x30 (0x30 + n) (omega arith), le-leb (0x30 + n) 0x39 (omega arith))

tens_back : (k n : ℕ) → n < k → (spells 0 (tens k n) ≡ n) × (are_digits (tens k n) ≡ true)
unfolding tens
tens_back zero n h = absurd (omega arith)
tens_back (suc k) n h = go (ltb n 10) refl (λ more. tens_back k (n / 10) (omega arith))
  where
    last : n % 10 < 10
    last = omega arith

    go : (t : Bool) → ltb n 10 ≡ t → (10 ≤ n → (spells 0 (tens k (n / 10)) ≡ n / 10) × (are_digits (tens k (n / 10)) ≡ true))
        → (spells 0 (pick t [] (tens k (n / 10)) ++ (digit (n % 10) ∷ [])) ≡ n) × (are_digits (pick t [] (tens k (n / 10)) ++ (digit (n % 10) ∷ [])) ≡ true)
    go true e f =
        let small = ltb-true n 10 e in (
          spells_last 0 (digit (n % 10)) [] ∙ none ∙ rw (digit_is (n % 10) last) (omega arith),
          digits_last (digit (n % 10)) [] (digit_within (n % 10) last) nothing,
        )
      where
        none : spells 0 [] * 10 + (digit (n % 10) - 0x30) ≡ digit (n % 10) - 0x30
        none = unfold spells in omega arith

        nothing : are_digits [] ≡ true
        nothing = unfold are_digits in refl
    go false e f =
        let back = f (ltb-false n 10 e) in (
          spells_last 0 (digit (n % 10)) (tens k (n / 10)) ∙ rw (back.0, digit_is (n % 10) last) (omega arith),
          digits_last (digit (n % 10)) (tens k (n / 10)) (digit_within (n % 10) last) back.1,
        )

pub decimal_back : (n : ℕ) → n < 2 ^ 64 → decimal_of (decimal n) ≡ Some n
unfolding decimal_of decimal presence
decimal_back n h =
    let back = tens_back (suc n) n (omega arith) in
    rw (lt-ltb 0 (length (tens (suc n) n)) (decimal-digits n), back.1, back.0, lt-ltb n (2 ^ 64) h)

-- ---- digit pairs
pub whole : (len n : ℕ) → eqb (len % 2) 0 && eqb (len / 2) n ≡ eqb (2 * n) len
whole len n = go (eqb (len % 2) 0) (eqb (len / 2) n) refl refl
  where
    go : (t u : Bool) → eqb (len % 2) 0 ≡ t → eqb (len / 2) n ≡ u → t && u ≡ eqb (2 * n) len
    go true true e f = sym (eq-eqb (2 * n) len (omega (arith, eqb-true (len % 2) 0 e, eqb-true (len / 2) n f)))
    go true false e f = sym (ne_eqb (2 * n) len (λ q. eqb-false (len / 2) n f (omega arith)))
    go false u e f = sym (ne_eqb (2 * n) len (λ q. eqb-false (len % 2) 0 e (omega arith)))

-- a number in hex, from what the functions beneath say
module _ (s : List ℕ) (width n : ℕ) (a b c : Bool) (count : n ≡ length (pairs 8 s)) (wide : c ≡ eqb (2 * n) (length s)) (asked : b ≡ eqb n width && c) (some-wide : a ≡ ltb 0 width && b) where
  test : ltb 0 width && (eqb (length (pairs 8 s)) width && are_pairs 8 s) ≡ a
  test = sym (some-wide ∙ rw (asked, wide, count))

  pub hex_bad : not a ≡ true → None ≡ hexadecimal_of width s
  unfolding hexadecimal_of presence
  hex_bad h = rw (test, not-true a h)

  pub hex_good : (d p : List ℕ) (v : ℕ) → not a ≡ false → d ≡ put (replicate 8 0) 0 (pairs 8 s) → p ≡ take n (drop 0 d) → v ≡ pick (leb (length p) 8) (big_endian p) 0 → Some v ≡ hexadecimal_of width s
  unfolding hexadecimal_of presence
  hex_good d p v h ed ep ev =
      let few : length (pairs 8 s) ≤ 8 = (length_pairs 8 s).0 in
      let bs : p ≡ pairs 8 s = ep ∙ rw (ed, count) (put_start (replicate 8 0) (pairs 8 s) few) in
      let number : v ≡ big_endian (pairs 8 s) = ev ∙ rw (bs, le-leb (length (pairs 8 s)) 8 few) in
      rw (test, not-false a h, number)

-- ---- payloads
module _ (s : List ℕ) (room n : ℕ) (t : Bool) (count : n ≡ length (pairs room s)) (dash : (t ≡ true → s ≡ (0x2D ∷ [])) × (s ≡ (0x2D ∷ []) → t ≡ true)) where
  pub payload_dash : t ≡ true → Some 0 ≡ option_map length (payload_of room s)
  unfolding payload_of
  payload_dash h = rw (← told s (0x2D ∷ []) t dash, h)

  module _ (a b : Bool) (no-dash : t ≡ false) (all : b ≡ eqb (2 * n) (length s)) (good : a ≡ ltb 0 (length s) && b) where
    pays : ltb 0 (length s) && are_pairs room s ≡ a
    pays = sym (good ∙ rw (all, count))

    pub payload_bad : not a ≡ true → None ≡ option_map length (payload_of room s)
    unfolding payload_of presence
    payload_bad h = rw (← told s (0x2D ∷ []) t dash, no-dash, pays, not-true a h)

    pub payload_good : not a ≡ false → Some n ≡ option_map length (payload_of room s)
    unfolding payload_of presence
    payload_good h = rw (← told s (0x2D ∷ []) t dash, no-dash, pays, not-false a h, count)

-- where a text is a payload, that stands at the start of the output
pub payload_there : (s d bs : List ℕ) → payload_of (length d) s ≡ Some bs → take (length bs) (put d 0 (pairs (length d) s)) ≡ bs
unfolding payload_of presence
payload_there s d bs e = go (same s (0x2D ∷ [])) (ltb 0 (length s) && are_pairs (length d) s) e
  where
    go : (t u : Bool) → pick t (Some []) (pick u (Some (pairs (length d) s)) None) ≡ Some bs → take (length bs) (put d 0 (pairs (length d) s)) ≡ bs
    go true u e = let q : [] ≡ bs = cc in rw (← q)
    go false true e = let q : pairs (length d) s ≡ bs = cc in rw (← q) (put_start d (pairs (length d) s) (length_pairs (length d) s).0)
    go false false e = let z : ◌≡◌ {A = ℕ} 0 1 = cc in absurd (omega arith)
