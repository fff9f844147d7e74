-- The written form of what a list means is its run. No contract cites this file.
use Prim.Native.Nat.{ℕ, suc, ◌+◌, ◌-◌, ◌≤◌}
use native.Mathlib.Omega.{arith}
use mathlib.Core.Path.{◌≡◌, ap, ap₂, sym, refl, ◌∙◌}
use mathlib.Core.List.{List, ◌++◌}
use mathlib.Core.Bool.{Bool, true, false, ◌||◌, ◌&&◌, false≢true}
use borrow.Author.Tests.{eqb-true}
use lib.Dec.{eqb}
use lib.ListN.{length, take, drop}
use lib.Seq.{take-add, drop-drop}
use Rattle.octets.specs.Octets.{Bytes, field, big_endian_bytes}
use Rattle.octets.proofs.Laws.{length_field, bytes_field}
use Rattle.text_fields.specs.Fields.{field_at, field_of, list_wire, texts_from, length_at, entries, run, is_list, list_meaning, is_empty, on_entries}
use Rattle.text_fields.specs.Steps.{run_bytes}
use Rattle.text_fields.specs.declared.TextList.{TextList}
use Rattle.texts.specs.declared.Text.{Text}
use Rattle.text_fields.specs.declared.Fault.{Fault}
use Rattle.text_fields.specs.declared.fields.Run.{Run}
use Rattle.std.specs.Prelude.{Some, Result, Ok, Err}
use Rattle.text_fields.proofs.Runs.{whole_end, along}

pub both_true : (a b : Bool) → (a && b) ≡ true → (a ≡ true) × (b ≡ true)
both_true true b h = (refl, h)
both_true false b h = absurd (false≢true h)

module _ (s : List ℕ) where
  -- two parts, one behind the other
  pub join : (a i j : ℕ) → field s a i ++ field s (a + i) j ≡ field s a (i + j)
  join a i j = sym (take-add i j (drop a s) ∙ ap (λ (l : List ℕ). take i (drop a s) ++ take j l) (drop-drop i a s))

  -- a whole field is its own written form
  pub own : Bytes s → (at : ℕ) {w : Text} → field_at s at ≡ Ok (Some w) → field_of (field s w.place w.len) ≡ field s at (2 + w.len)
  unfolding field_of
  own b at {w} e =
      let p = w.place in
      let n = w.len in
      let t = whole_end s at (sym e) refl in
      let l : length (field s p n) ≡ n = length_field p n s t.2 in
      let two : big_endian_bytes 2 n ≡ field s at 2 = ap (big_endian_bytes 2) t.1 ∙ bytes_field at 2 s b (omega arith) in
      ap (λ (k : ℕ). big_endian_bytes 2 k ++ field s p n) l
      ∙ ap (λ (x : List ℕ). x ++ field s p n) two
      ∙ ap (λ (k : ℕ). field s at 2 ++ field s k n) t.0
      ∙ join at 2 n

  -- one field more in front of a run
  joined : Bytes s → (at to m : ℕ) (w : Text) → field_at s at ≡ Ok (Some w) → w.place + w.len ≤ to → list_wire (texts_from m s (w.place + w.len)) ≡ field s (w.place + w.len) (to - (w.place + w.len))
      → list_wire (texts_from (suc m) s at) ≡ field s at (to - at)
  unfolding list_wire texts_from
  joined b at to m w q g h =
      let p = w.place in
      let n = w.len in
      let t = whole_end s at (sym q) refl in
      let e : at + 2 + length_at s at ≡ p + n = omega (arith, t.0, t.1) in
      let j : p + n ≡ at + (2 + n) = omega (arith, t.0) in
      let z : 2 + n + (to - (p + n)) ≡ to - at = omega (arith, t.0) in
      ap₂ (λ (u v : List ℕ). u ++ v)
      (ap₂ (λ (a k : ℕ). field_of (field s a k)) (sym t.0) (sym t.1) ∙ own b at q)
      (ap (λ (a : ℕ). list_wire (texts_from m s a)) e ∙ h ∙ ap (λ (a : ℕ). field s a (to - (p + n))) j)
      ∙ join at (2 + n) (to - (p + n))
      ∙ ap (field s at) z

  -- the texts of a run, written, are the run
  pub run_wire : Bytes s → (most at count : ℕ) {k to : ℕ} → entries most s at count ≡ run k to
      → (count ≤ k) × (at ≤ to) × (list_wire (texts_from (k - count) s at) ≡ field s at (to - at))
  unfolding list_wire texts_from
  run_wire b most at count {k} {to} =
      along (λ most at count. (count ≤ k) × (at ≤ to) × (list_wire (texts_from (k - count) s at) ≡ field s at (to - at))) s k to
      (end to k refl refl)
      (λ most at count q e d. end at count e d)
      (λ most at count w q h. step at count w q h)
      most at count
    where
      end : (at count : ℕ) → at ≡ to → count ≡ k → (count ≤ k) × (at ≤ to) × (list_wire (texts_from (k - count) s at) ≡ field s at (to - at))
      end at count e d =
          let z : k - count ≡ 0 = omega arith in
          let y : to - at ≡ 0 = omega arith in
          (omega arith, omega arith, rw (z, y))

      step : (at count : ℕ) (w : Text) → field_at s at ≡ Ok (Some w) → (count + 1 ≤ k) × (w.place + w.len ≤ to) × (list_wire (texts_from (k - (count + 1)) s (w.place + w.len)) ≡ field s (w.place + w.len) (to - (w.place + w.len)))
          → (count ≤ k) × (at ≤ to) × (list_wire (texts_from (k - count) s at) ≡ field s at (to - at))
      step at count w q h =
          let t = whole_end s at (sym q) refl in
          let m : k - count ≡ suc (k - (count + 1)) = omega arith in
          (omega arith, omega arith, ap (λ (i : ℕ). list_wire (texts_from i s at)) m ∙ joined b at to (k - (count + 1)) w q h.1 h.2)

  -- a list that can be is written as its run
  pub list_wire_law : Bytes s → (x : TextList) → is_list s x ≡ true → run_bytes s x ≡ list_wire (list_meaning s x)
  unfolding is_list list_meaning list_wire texts_from
  list_wire_law b x h = go (is_empty x) (entries x.count s x.place 0) refl refl h
    where
      go : (e : Bool) (r : Result Run Fault) → is_empty x ≡ e → entries x.count s x.place 0 ≡ r
          → (e || on_entries r (λ r. eqb r.count x.count && eqb (r.next - x.place) x.len) (λ fault. false)) ≡ true
          → run_bytes s x ≡ list_wire (texts_from x.count s x.place)
      go true r p q h =
          let (c, l) = both_true _ _ p in
          let c0 : x.count ≡ 0 = eqb-true _ _ c in
          let l0 : x.len ≡ 0 = eqb-true _ _ l in
          rw (c0, l0)
      go false (Ok r) p q h =
          let k = r.count in
          let next = r.next in
          let (c, l) = both_true _ _ h in
          let c0 : k ≡ x.count = eqb-true _ _ c in
          let l0 : next - x.place ≡ x.len = eqb-true _ _ l in
          let z : k - 0 ≡ x.count = omega arith in
          sym
          (ap (λ (i : ℕ). list_wire (texts_from i s x.place)) (sym z)
          ∙ (run_wire b x.count x.place 0 q).2
          ∙ ap (λ (i : ℕ). field s x.place i) l0)
      go false (Err f) p q h = absurd (false≢true h)
