-- The cases of a field and of a run, over the numbers that the code has at hand. No contract cites this file.
use Prim.Native.Nat.{ℕ, zero, suc, ◌+◌, ◌-◌, ◌*◌, ◌^◌, ◌≤◌, ◌<◌}
use mathlib.Core.Path.{◌≡◌, ap, sym, refl, ◌∙◌}
use mathlib.Core.List.{List}
use mathlib.Core.Bool.{Bool, true, false}
use native.Mathlib.Omega.{arith}
use native.Mathlib.Nat.{add-sub_cancel_left}
use borrow.Author.Tests.{lt-ltb, le-ltb, ltb-true, ltb-false, eq-eqb, ne_eqb}
use lib.Dec.{ltb, eqb}
use lib.ListN.{length, take, drop}
use Rattle.octets.specs.Octets.{pick, big_endian}
use Rattle.octets.proofs.Laws.{number_part, part_below}
use Rattle.text.specs.Utf8.{good_len, bad_len, checked}
use Rattle.text_fields.specs.Fields.{length_at, field_at, text_at, text_of, entries, run, on_field, is_maybe, is_empty, is_list}
use Rattle.texts.specs.Texts.{is_text}
use Rattle.texts.specs.declared.Text.{Text}
use Rattle.text_fields.specs.declared.TextList.{TextList}
use Rattle.text_fields.specs.declared.Fault.{Fault}
use Rattle.text_fields.specs.declared.Fault.TheVariants.{Past, Garbled}
use Rattle.text_fields.specs.declared.fields.Run.{Run}
use Rattle.std.specs.Prelude.{Option, None, Some, Result, Ok, Err}
use lib.Dec.{leb}

-- ---- the length

-- the two bytes of a length, from their place on
module _ (s : List ℕ) (at : ℕ) {p : List ℕ} (e : p ≡ take (at + 2 - at) (drop at s)) where
  pub length_is : {r : ℕ} → r ≡ pick (leb (length p) 8) (big_endian p) 0 → r ≡ length_at s at
  length_is q = number_part s at 2 e (omega arith) q

  pub length_small : {r : ℕ} → r < 256 ^ length p → r < 65536
  length_small h = part_below s at 2 e h

-- ---- the field at a place

module _ (s : List ℕ) (at : ℕ) where
  pub absent : length s < at + 2 → Ok None ≡ field_at s at
  unfolding field_at
  absent h = rw (lt-ltb _ _ h)

  module _ {len : ℕ} (e : len ≡ length_at s at) (two : at + 2 ≤ length s) where
    pub past : length s < at + 2 + len → Err (Past (at + 2 + len) (length s)) ≡ field_at s at
    unfolding field_at
    past h = rw (le-ltb _ _ two, ← e, lt-ltb _ _ h)

    module _ {good : ℕ} (g : good ≡ good_len (take (at + 2 + len - (at + 2)) (drop (at + 2) s))) (whole : at + 2 + len ≤ length s) where
      same : good ≡ good_len (take len (drop (at + 2) s))
      same = g ∙ ap (λ (n : ℕ). good_len (take n (drop (at + 2) s))) (add-sub_cancel_left (at + 2) len)

      pub garbled : {bad : ℕ} → good < len → bad ≡ bad_len (drop good (take (at + 2 + len - (at + 2)) (drop (at + 2) s))) → Err (Garbled (at + 2 + good) bad) ≡ field_at s at
      unfolding field_at checked
      garbled h b =
          let how = b ∙ ap (λ (n : ℕ). bad_len (drop good (take n (drop (at + 2) s)))) (add-sub_cancel_left (at + 2) len) in
          rw (le-ltb _ _ two, ← e, le-ltb _ _ whole, ← same, lt-ltb _ _ h, ← how)

      pub whole_there : len ≤ good → Ok (text_of (at + 2) len) ≡ field_at s at
      unfolding field_at
      whole_there h = rw (le-ltb _ _ two, ← e, le-ltb _ _ whole, ← same, le-ltb _ _ h)

-- what the tests were where a field is whole
passed : (t u v : Bool) (x y : Fault) (a l : ℕ) {w : Text} → pick t (Ok None) (pick u (Err x) (pick v (Err y) (Ok (text_of a l)))) ≡ Ok (Some w)
    → (u ≡ false) × (v ≡ false) × (w.place ≡ a) × (w.len ≡ l)
passed true u v x y a l e = (cc, cc, cc, cc)
passed false true v x y a l e = (cc, cc, cc, cc)
passed false false true x y a l e = (cc, cc, cc, cc)
passed false false false x y a l {w} e =
    let same : ◌≡◌ {A = Text} (record { place = a; len = l }) w = cc in
    (refl, refl, sym (ap (λ (t : Text). t.place) same), sym (ap (λ (t : Text). t.len) same))

-- what they were where there is none
missed : (t u v : Bool) (x y : Fault) (a l : ℕ) → pick t (Ok None) (pick u (Err x) (pick v (Err y) (Ok (text_of a l)))) ≡ Ok None → t ≡ true
missed true u v x y a l e = refl
missed false true v x y a l e = cc
missed false false true x y a l e = cc
missed false false false x y a l e = cc

pub missing : (s : List ℕ) (at : ℕ) → field_at s at ≡ Ok None → length s < at + 2
unfolding field_at
missing s at e =
    ltb-true (length s) (at + 2) (missed (ltb (length s) (at + 2)) (ltb (length s) (at + 2 + length_at s at)) (ltb (good_len (text_at s at)) (length_at s at)) _ _ (at + 2) (length_at s at) e)

module _ (s : List ℕ) (at : ℕ) {f : Result (Option Text) Fault} {t : Text} (e : f ≡ field_at s at) (k : f ≡ Ok (Some t)) where
  -- a whole field's text stands behind its length, and ends within the payload
  pub whole_end : (t.place ≡ at + 2) × (t.len ≡ length_at s at) × (t.place + t.len ≤ length s)
  unfolding field_at
  whole_end =
      let q = passed (ltb (length s) (at + 2)) (ltb (length s) (at + 2 + length_at s at)) (ltb (good_len (text_at s at)) (length_at s at)) _ _ (at + 2) (length_at s at) (sym e ∙ k) in
      (q.2, q.3, omega (arith, q.2, q.3, ltb-false (length s) (at + 2 + length_at s at) q.0))

  -- and is UTF-8
  pub whole_utf8 : t.len ≤ good_len (take t.len (drop t.place s))
  unfolding field_at
  whole_utf8 =
      let q = passed (ltb (length s) (at + 2)) (ltb (length s) (at + 2 + length_at s at)) (ltb (good_len (text_at s at)) (length_at s at)) _ _ (at + 2) (length_at s at) (sym e ∙ k) in
      rw (q.2, q.3) (ltb-false (good_len (text_at s at)) (length_at s at) q.1)

-- ---- a run of fields

-- one turn of the loop: what is left to take, by the field that stands there
module _ (s : List ℕ) (at count most : ℕ) {f : Result (Option Text) Fault} {total : Result Run Fault} (lt : count < most) (inv : entries (most - count) s at count ≡ total) (e : f ≡ field_at s at) where
  one_more : most - count ≡ suc (most - (count + 1))
  one_more = omega arith

  pub stop : f ≡ Ok None → run count at ≡ total
  unfolding entries
  stop k = simp (one_more, ← e, k) at inv

  pub go_on : {t : Text} → f ≡ Ok (Some t) → entries (most - (count + 1)) s (t.place + t.len) (count + 1) ≡ total
  unfolding entries
  go_on k = simp (one_more, ← e, k) at inv

  pub fail : {x : Fault} → f ≡ Err x → Err x ≡ total
  unfolding entries
  fail k = simp (one_more, ← e, k) at inv

pub full : (s : List ℕ) (at count most : ℕ) {total : Result Run Fault} → most ≤ count → entries (most - count) s at count ≡ total → run count at ≡ total
unfolding entries
full s at count most le inv =
    let z : most - count ≡ 0 = omega arith in
    rw z at inv

-- two runs that are one
pub ended : (at count k to : ℕ) → run count at ≡ run k to → (at ≡ to) × (count ≡ k)
ended at count k to e =
    let same : ◌≡◌ {A = Run} (record { count = count; next = at }) (record { count = k; next = to }) = cc in
    (ap (λ (r : Run). r.next) same, ap (λ (r : Run). r.count) same)

-- What is proved of every run by going along it: `P at count` of the end, and of a field from what is behind it.
pub along : (P : ℕ → ℕ → ℕ → Type 0) (s : List ℕ) (k to : ℕ)
    → P 0 to k
    → ((most at count : ℕ) → field_at s at ≡ Ok None → at ≡ to → count ≡ k → P most at count)
    → ((most at count : ℕ) (t : Text) → field_at s at ≡ Ok (Some t) → P most (t.place + t.len) (count + 1) → P (suc most) at count)
    → (most at count : ℕ) → entries most s at count ≡ run k to → P most at count
unfolding entries
along P s k to done gone more zero at count e = let (a, b) = ended at count k to e in rw (a, b) done
along P s k to done gone more (suc most) at count e = go (field_at s at) refl e (along P s k to done gone more most)
  where
    go : (f : Result (Option Text) Fault) → field_at s at ≡ f → on_field f (run count at) (λ t. entries most s (t.place + t.len) (count + 1)) Err ≡ run k to
        → ((at count : ℕ) → entries most s at count ≡ run k to → P most at count) → P (suc most) at count
    go (Ok None) q e ih = let (a, b) = ended at count k to e in gone (suc most) at count q a b
    go (Ok (Some t)) q e ih = more most at count t q (ih (t.place + t.len) (count + 1) e)
    go (Err x) q e ih = let z : ◌≡◌ {A = ℕ} 0 1 = cc in absurd (omega arith)

-- a run ends at or behind the place where it begins, with two bytes for each field
pub grows : (s : List ℕ) (most at count : ℕ) {k to : ℕ} → entries most s at count ≡ run k to → (count ≤ k) × (at + 2 * (k - count) ≤ to)
grows s most at count {k} {to} =
    along (λ most at count. (count ≤ k) × (at + 2 * (k - count) ≤ to)) s k to
    (omega arith, omega arith)
    (λ most at count q e d. (omega arith, omega arith))
    (λ most at count t q h. (omega arith, omega (arith, whole_end s at (sym q) refl)))
    most at count

-- the fields of a run stand within the slice
pub bounded : (s : List ℕ) (most at count : ℕ) {k to : ℕ} → entries most s at count ≡ run k to → (count ≤ k) × (count < k → at + 2 * (k - count) ≤ length s)
bounded s most at count {k} {to} =
    along (λ most at count. (count ≤ k) × (count < k → at + 2 * (k - count) ≤ length s)) s k to
    (omega arith, λ h. absurd (omega arith))
    (λ most at count q e d. (omega arith, λ h. absurd (omega arith)))
    (λ most at count t q ih. (omega arith, λ h. by at count t q ih (k - (count + 1)) refl))
    most at count
  where
    by : (at count : ℕ) (t : Text) → field_at s at ≡ Ok (Some t) → (count + 1 ≤ k) × (count + 1 < k → t.place + t.len + 2 * (k - (count + 1)) ≤ length s)
        → (d : ℕ) → k - (count + 1) ≡ d → at + 2 * (k - count) ≤ length s
    by at count t q ih zero z = omega (arith, whole_end s at (sym q) refl)
    by at count t q ih (suc d) z = omega (arith, whole_end s at (sym q) refl, ih.1 (omega arith))

-- ---- texts that can be

pub maybe_not : (t : List ℕ) (x : Option Text) → x ≡ None → true ≡ is_maybe t x
unfolding is_maybe
maybe_not t x h = rw h

pub maybe_good : (t : List ℕ) (x : Option Text) (b : Bool) (w : Text) → x ≡ Some w → b ≡ is_text t w → b ≡ is_maybe t x
unfolding is_maybe
maybe_good t x b w h e = rw (h, e)

-- ---- lists that can be

module _ (t : List ℕ) (x : TextList) (b : Bool) (e : b ≡ is_empty x) where
  pub list_empty : b ≡ true → true ≡ is_list t x
  unfolding is_list
  list_empty h = rw (← e, h)

  module _ (h : b ≡ false) where
    -- all its fields are there
    pub list_run : (k next : ℕ) (g : Bool) → k ≤ x.count → x.count ≤ k → run k next ≡ entries x.count t x.place 0 → g ≡ eqb (next - x.place) x.len → g ≡ is_list t x
    unfolding is_list
    list_run k next g l m q p = rw (← e, h, ← q, eq-eqb k x.count (omega arith)) p

    -- there are fewer
    pub list_short : (k next : ℕ) → k < x.count → run k next ≡ entries x.count t x.place 0 → false ≡ is_list t x
    unfolding is_list
    list_short k next l q = rw (← e, h, ← q, ne_eqb k x.count (λ z. omega arith))

    pub list_broken : (f : Fault) → Err f ≡ entries x.count t x.place 0 → false ≡ is_list t x
    unfolding is_list
    list_broken f q = rw (← e, h, ← q)
