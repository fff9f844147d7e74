-- What a payload that was accepted shows of each step: what it writes, that it can be written, and that a payload cut behind it is read alike. No contract cites this file.
use Prim.Native.Nat.{ℕ, zero, suc, ◌+◌, ◌-◌, ◌*◌, ◌≤◌, ◌<◌}
use native.Mathlib.Omega.{arith}
use native.Mathlib.Nat.{add-sub_cancel_left}
use mathlib.Core.Path.{◌≡◌, ap, ap₂, sym, refl, ◌∙◌}
use mathlib.Core.List.{List, [], ◌∷◌}
use mathlib.Core.Bool.{Bool, true, false, or-true}
use Rattle.std.specs.Prelude.{Option, None, Some, Result, Ok, Err}
use borrow.Author.Tests.{le-leb, eq-eqb}
use lib.ListN.{length, take, drop, length-take}
use Rattle.octets.specs.Octets.{pick, Bytes, field, big_endian}
use Rattle.text.specs.Utf8.{good_len}
use Rattle.text.proofs.Laws.{good_fits}
use Rattle.texts.specs.Texts.{is_text}
use Rattle.text_fields.specs.Fields.{took, length_at, field_at, entries, run, text, texts_from, on_field, text_meaning, text_wire, is_maybe, list_meaning, list, list_wire, is_list, text_of, no_list, run_of, is_empty, on_entries}
use Rattle.texts.specs.declared.Text.{Text}
use Rattle.text_fields.specs.declared.Fault.{Fault}
use Rattle.text_fields.specs.declared.Step.{Step}
use Rattle.text_fields.specs.declared.TextList.{TextList}
use Rattle.text_fields.specs.declared.fields.Run.{Run}
use Rattle.text_fields.proofs.Runs.{absent, whole_there, whole_end, whole_utf8, missing, along}
use Rattle.text_fields.proofs.Meant.{own, run_wire}

-- t has n bytes, and those behind the first two are the beginning of s
pub record Cut (n : ℕ) (s t : List ℕ) : Type 0 where
  pub size : length t ≡ n
  pub within : n ≤ length s
  pub alike : (at w : ℕ) → 2 ≤ at → at + w ≤ n → field t at w ≡ field s at w

-- one step at a place of s took x and came to `next`: `means` is what x means, `wires` its written form, `can` whether it can be written
pub record Kept {A M : Type 0} (means : List ℕ → A → M) (wires : M → List ℕ) (can : List ℕ → A → Bool) (step : List ℕ → Result (Step A) Fault) (s : List ℕ) (at next : ℕ) (x : A) : Type 0 where
  pub onward : at ≤ next
  pub within : next ≤ length s
  pub writes : wires (means s x) ≡ field s at (next - at)
  pub able : can s x ≡ true
  pub again : {n : ℕ} {t : List ℕ} → Cut n s t → next ≤ n → (step t ≡ took x next) × (means t x ≡ means s x)

-- ---- fields and runs in a payload that is cut

module _ {n : ℕ} {s t : List ℕ} (c : Cut n s t) where
  length_carried : (at : ℕ) → 2 ≤ at → at + 2 ≤ n → length_at t at ≡ length_at s at
  length_carried at h k = ap big_endian (c.alike at 2 h k)

  carry_whole : (at : ℕ) {x : Text} → 2 ≤ at → field_at s at ≡ Ok (Some x) → x.place + x.len ≤ n → field_at t at ≡ Ok (Some x)
  carry_whole at {x} h e k =
      let p = x.place in
      let m = x.len in
      let w = whole_end s at (sym e) refl in
      let u = whole_utf8 s at (sym e) refl in
      let size = c.size in
      let l : m ≡ length_at t at = w.1 ∙ sym (length_carried at h (omega arith)) in
      let g : good_len (take (at + 2 + m - (at + 2)) (drop (at + 2) t)) ≡ good_len (field s p m) =
      ap good_len
      (ap (λ (i : ℕ). take i (drop (at + 2) t)) (add-sub_cancel_left (at + 2) m)
      ∙ ap (λ (i : ℕ). field t i m) (sym w.0)
      ∙ c.alike p m (omega arith) k) in
      sym (whole_there t at l (omega arith) refl (omega arith) (omega (arith, g))) ∙ ap (λ (i : ℕ). Ok (text_of i m)) (sym w.0)

  carry_absent : (at : ℕ) → field_at s at ≡ Ok None → field_at t at ≡ Ok None
  carry_absent at e = sym (absent t at (omega (arith, missing s at e, c.size, c.within)))

  carry_run : (most at count : ℕ) {k to : ℕ} → 2 ≤ at → to ≤ n → entries most s at count ≡ run k to → entries most t at count ≡ run k to
  unfolding entries
  carry_run most at count {k} {to} h g e =
      (along (λ most at count. 2 ≤ at → (at ≤ to) × (entries most t at count ≡ run k to)) s k to
      (λ h. (omega arith, refl))
      (λ most at count q e d h. (omega arith, none_left most at count (carry_absent at q) ∙ ap₂ run d e))
      (λ most at count x q ih h. step most at count x q ih h)
      most at count e h).1
    where
      none_left : (most at count : ℕ) → field_at t at ≡ Ok None → entries most t at count ≡ run count at
      none_left zero at count q = refl
      none_left (suc most) at count q = rw q

      step : (most at count : ℕ) (x : Text) → field_at s at ≡ Ok (Some x) → (2 ≤ x.place + x.len → (x.place + x.len ≤ to) × (entries most t (x.place + x.len) (count + 1) ≡ run k to)) → 2 ≤ at
          → (at ≤ to) × (entries (suc most) t at count ≡ run k to)
      step most at count x q ih h =
          let w = whole_end s at (sym q) refl in
          let (l, i) = ih (omega arith) in
          (omega arith, rw (carry_whole at h q (omega arith)) i)

  carry_texts : Bytes s → (most at count : ℕ) {k to : ℕ} → 2 ≤ at → to ≤ n → entries most s at count ≡ run k to → texts_from (k - count) t at ≡ texts_from (k - count) s at
  unfolding texts_from
  carry_texts b most at count {k} {to} h g e =
      (along (λ most at count. 2 ≤ at → (count ≤ k) × (at ≤ to) × (texts_from (k - count) t at ≡ texts_from (k - count) s at)) s k to
      (λ h. end to k refl refl)
      (λ most at count q e d h. end at count e d)
      (λ most at count x q ih h. step at count x q ih h)
      most at count e h).2
    where
      end : (at count : ℕ) → at ≡ to → count ≡ k → (count ≤ k) × (at ≤ to) × (texts_from (k - count) t at ≡ texts_from (k - count) s at)
      end at count e d =
          let z : k - count ≡ 0 = omega arith in
          (omega arith, omega arith, rw z)

      step : (at count : ℕ) (x : Text) → field_at s at ≡ Ok (Some x) → (2 ≤ x.place + x.len → (count + 1 ≤ k) × (x.place + x.len ≤ to) × (texts_from (k - (count + 1)) t (x.place + x.len) ≡ texts_from (k - (count + 1)) s (x.place + x.len))) → 2 ≤ at
          → (count ≤ k) × (at ≤ to) × (texts_from (k - count) t at ≡ texts_from (k - count) s at)
      step at count x q ih h =
          let p = x.place in
          let m = x.len in
          let w = whole_end s at (sym q) refl in
          let (l, j, i) = ih (omega arith) in
          let z : k - count ≡ suc (k - (count + 1)) = omega arith in
          let e : length_at t at ≡ m = length_carried at h (omega arith) ∙ sym w.1 in
          let f : length_at s at ≡ m = sym w.1 in
          let a : at + 2 ≡ p = sym w.0 in
          (omega arith, omega arith, rw (z, e, f, a) (ap₂ ◌∷◌ (c.alike p m (omega arith) (omega arith)) i))

-- as many turns as there are bytes are enough
enough : (t : List ℕ) (m m' at count : ℕ) → length t < at + 2 * m + 2 → length t < at + 2 * m' + 2 → entries m t at count ≡ entries m' t at count
unfolding entries
enough t zero zero at count h h' = refl
enough t zero (suc m') at count h h' = rw (← absent t at (omega arith))
enough t (suc m) zero at count h h' = rw (← absent t at (omega arith))
enough t (suc m) (suc m') at count h h' = go (field_at t at) refl (λ x. enough t m m' (x.place + x.len) (count + 1))
  where
    go : (f : Result (Option Text) Fault) → field_at t at ≡ f → ((x : Text) → length t < x.place + x.len + 2 * m + 2 → length t < x.place + x.len + 2 * m' + 2 → entries m t (x.place + x.len) (count + 1) ≡ entries m' t (x.place + x.len) (count + 1))
        → on_field f (run count at) (λ x. entries m t (x.place + x.len) (count + 1)) Err ≡ on_field f (run count at) (λ x. entries m' t (x.place + x.len) (count + 1)) Err
    go (Ok None) q ih = refl
    go (Ok (Some x)) q ih = let w = whole_end t at (sym q) refl in ih x (omega arith) (omega arith)
    go (Err x) q ih = refl

-- a run has just so many fields
exact : (s : List ℕ) (most at count : ℕ) {k to : ℕ} → entries most s at count ≡ run k to → entries (k - count) s at count ≡ run k to
unfolding entries
exact s most at count {k} {to} e =
    (along (λ most at count. (count ≤ k) × (entries (k - count) s at count ≡ run k to)) s k to
    (end to k refl refl)
    (λ most at count q e d. end at count e d)
    (λ most at count x q h. step at count x q h)
    most at count e).1
  where
    end : (at count : ℕ) → at ≡ to → count ≡ k → (count ≤ k) × (entries (k - count) s at count ≡ run k to)
    end at count e d =
        let z : k - count ≡ 0 = omega arith in
        (omega arith, rw z (ap₂ run d e))

    step : (at count : ℕ) (x : Text) → field_at s at ≡ Ok (Some x) → (count + 1 ≤ k) × (entries (k - (count + 1)) s (x.place + x.len) (count + 1) ≡ run k to) → (count ≤ k) × (entries (k - count) s at count ≡ run k to)
    step at count x q h =
        let z : k - count ≡ suc (k - (count + 1)) = omega arith in
        (omega arith, rw (z, q) h.1)

-- ---- the two steps

module _ (s : List ℕ) (b : Bytes s) (at : ℕ) (two : 2 ≤ at) (in-s : at ≤ length s) where
  abbrev TextKept : (List ℕ → Result (Step (Option Text)) Fault) → ℕ → Option Text → Type 0
  TextKept step next x = Kept text_meaning text_wire is_maybe step s at next x

  abbrev ListKept : (List ℕ → Result (Step TextList) Fault) → ℕ → TextList → Type 0
  ListKept step next x = Kept list_meaning list_wire is_list step s at next x

  nothing : field s at (at - at) ≡ []
  nothing = let z : at - at ≡ 0 = omega arith in rw z

  -- an absent text takes nothing
  no_text_law : (step : List ℕ → Result (Step (Option Text)) Fault) → ((n : ℕ) (t : List ℕ) → Cut n s t → step t ≡ took None at) → TextKept step at None
  unfolding text_meaning text_wire is_maybe
  no_text_law step h = record { onward = omega arith; within = in-s; writes = sym nothing; able = refl; again = λ c k. (h _ _ c, refl) }

  whole_text : (step : List ℕ → Result (Step (Option Text)) Fault) (x : Text) → field_at s at ≡ Ok (Some x)
      → ((n : ℕ) (t : List ℕ) → Cut n s t → x.place + x.len ≤ n → step t ≡ took (Some x) (x.place + x.len)) → TextKept step (x.place + x.len) (Some x)
  unfolding text_meaning text_wire is_maybe is_text
  whole_text step x e h =
      let p = x.place in
      let m = x.len in
      let w = whole_end s at (sym e) refl in
      let u = whole_utf8 s at (sym e) refl in
      let z : p + m - at ≡ 2 + m = omega (arith, w.0) in
      record {
        onward = omega (arith, w.0);
        within = w.2;
        writes = own s b at e ∙ ap (field s at) (sym z);
        able = rw (le-leb (p + m) (length s) w.2, eq-eqb (good_len (take m (drop p s))) m (omega (arith, good_fits (take m (drop p s)), length-take m (drop p s))));
        again = λ c k. (h _ _ c k, ap Some (c.alike p m (omega (arith, w.0)) k));
      }

  -- two steps that are one
  same_step : {A : Type 0} {x y : A} {a b : ℕ} → took x a ≡ took y b → (x ≡ y) × (a ≡ b)
  same_step {A} {x} {y} {a} {b} e =
      let same : ◌≡◌ {A = Step A} (record { taken = x; next = a }) (record { taken = y; next = b }) = cc in
      (ap (λ (r : Step A). r.taken) same, ap (λ (r : Step A). r.next) same)

  pub text_kept : (f : Bool) (x : Option Text) (next : ℕ) → text s f at ≡ took x next → TextKept (λ t. text t f at) next x
  unfolding text
  text_kept false x next e = let (p, q) = same_step e in rw (← p, ← q) (no_text_law (λ t. took None at) (λ n t c. refl))
  text_kept true x next e = go (field_at s at) refl e
    where
      go : (g : Result (Option Text) Fault) → field_at s at ≡ g → on_field g (took None at) (λ t. took (Some t) (t.place + t.len)) Err ≡ took x next → TextKept (λ t. text t true at) next x
      go (Ok None) q e = let (p, r) = same_step e in rw (← p, ← r) (no_text_law (λ t. text t true at) (λ n t c. rw (carry_absent c at q)))
      go (Ok (Some w)) q e = let (i, r) = same_step e in rw (← i, ← r) (whole_text (λ t. text t true at) w q (λ n t c k. rw (carry_whole c at two q k)))
      go (Err f) q e = let z : ◌≡◌ {A = ℕ} 0 1 = cc in absurd (omega arith)

  no_list_law : ListKept (λ t. took no_list at) at no_list
  unfolding list_meaning list_wire texts_from is_list
  no_list_law = record { onward = omega arith; within = in-s; writes = sym nothing; able = refl; again = λ c k. (refl, refl) }

  turns : {n : ℕ} {t : List ℕ} → Cut n s t → (later : Bool) {k to : ℕ} → to ≤ n → entries (pick later 1 (length s)) s at 0 ≡ run k to → entries (pick later 1 (length t)) t at 0 ≡ run k to
  turns c true h e = carry_run c 1 at 0 two h e
  turns {n} {t} c false h e = enough t (length t) (length s) at 0 (omega arith) (omega (arith, c.size, c.within)) ∙ carry_run c (length s) at 0 two h e

  run_list : (later : Bool) (k to : ℕ) → entries (pick later 1 (length s)) s at 0 ≡ run k to → ListKept (λ t. list t true later at) to (run_of at to k)
  unfolding list list_meaning is_list
  run_list later k to e =
      let (l, g, w) = run_wire s b (pick later 1 (length s)) at 0 e in
      let z : k - 0 ≡ k = omega arith in
      let x : entries k s at 0 ≡ run k to = rw z at (exact s (pick later 1 (length s)) at 0 e) in
      record {
        onward = g;
        within = ends (pick later 1 (length s)) at 0 in-s e;
        writes = rw z at w;
        able = rw (x, eq-eqb k k refl, eq-eqb (to - at) (to - at) refl) (or-true (is_empty (run_of at to k)));
        again = λ c h. (rw (turns c later h e), rw z at (carry_texts c b (pick later 1 (length s)) at 0 two h e));
      }
    where
      ends : (most at count : ℕ) → at ≤ length s → entries most s at count ≡ run k to → to ≤ length s
      ends most at count h e =
          along (λ most at count. at ≤ length s → to ≤ length s) s k to
          (λ h. h)
          (λ most at count q e d h. omega arith)
          (λ most at count x q ih h. ih (whole_end s at (sym q) refl).2)
          most at count e h

  pub list_kept : (f later : Bool) (x : TextList) (next : ℕ) → list s f later at ≡ took x next → ListKept (λ t. list t f later at) next x
  unfolding list
  list_kept false later x next e = let (p, q) = same_step e in rw (← p, ← q) no_list_law
  list_kept true later x next e = go (entries (pick later 1 (length s)) s at 0) refl e
    where
      go : (r : Result Run Fault) → entries (pick later 1 (length s)) s at 0 ≡ r → on_entries r (λ r. took (run_of at r.next r.count) r.next) Err ≡ took x next → ListKept (λ t. list t true later at) next x
      go (Ok r) q e = let (i, n) = same_step e in rw (← i, ← n) (run_list later r.count r.next q)
      go (Err f) q e = let z : ◌≡◌ {A = ℕ} 0 1 = cc in absurd (omega arith)
