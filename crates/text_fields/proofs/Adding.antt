-- The cases of adding an entry. No contract cites this file.
use Prim.Native.Nat.{ℕ, zero, suc, ◌+◌, ◌-◌, ◌*◌, ◌≤◌, ◌<◌}
use native.Mathlib.Omega.{arith}
use mathlib.Core.Path.{◌≡◌, sym, refl, ◌∙◌}
use mathlib.Core.List.{List}
use mathlib.Core.Bool.{Bool, true, false, not, ◌&&◌, false≢true}
use borrow.Author.Tests.{le-leb, lt-leb, eq-eqb, ne_eqb, eqb-true, eqb-false, not-true, not-false}
use lib.Dec.{eqb}
use lib.ListN.{length}
use Rattle.answer.specs.declared.Answer.TheVariants.{Done, InputTooLong, BadText}
use Rattle.kind.specs.Write.{◌then◌}
use Rattle.text_fields.specs.Fields.{field_at, on_field, entry_end, is_list, is_empty, entries, on_entries, is_behind, bad, added, add_refusal, added_by, run_of}
use Rattle.text_fields.specs.declared.TextList.{TextList}
use Rattle.texts.specs.declared.Text.{Text}
use Rattle.text_fields.specs.declared.Fault.{Fault}
use Rattle.text_fields.specs.declared.fields.Run.{Run}
use Rattle.std.specs.Prelude.{Option, None, Some, Result, Ok, Err, is_some}
use Rattle.text_fields.proofs.Runs.{whole_end, bounded}
use Rattle.text_fields.proofs.Meant.{both_true}

-- ---- the entry

module _ (t : List ℕ) (at : ℕ) where
  pub entry_is : (f g : Result (Option Text) Fault) → f ≡ field_at t at → f ≡ g → on_field g None (λ w. Some (w.place + w.len)) (λ fault. None) ≡ entry_end t at
  unfolding entry_end
  entry_is f g e k = rw (← e, k)

  -- an entry that is there ends behind its place
  pub entry_behind : (end : ℕ) → Some end ≡ entry_end t at → at + 2 ≤ end
  unfolding entry_end
  entry_behind end e = go (field_at t at) refl e
    where
      go : (f : Result (Option Text) Fault) → field_at t at ≡ f → Some end ≡ on_field f None (λ w. Some (w.place + w.len)) (λ fault. None) → at + 2 ≤ end
      go (Ok None) q e = let z : ◌≡◌ {A = ℕ} 0 1 = cc in absurd (omega arith)
      go (Ok (Some w)) q e =
          let x = whole_end t at (sym q) refl in
          let y : end ≡ w.place + w.len = cc in
          omega arith
      go (Err x) q e = let z : ◌≡◌ {A = ℕ} 0 1 = cc in absurd (omega arith)

-- a list that can be has no more entries than its slice has bytes
few : (t : List ℕ) (x : TextList) → is_list t x ≡ true → is_empty x ≡ false → x.count ≤ length t
unfolding is_list
few t x h k = go (entries x.count t x.place 0) refl (rw k at h)
  where
    go : (r : Result Run Fault) → entries x.count t x.place 0 ≡ r → on_entries r (λ r. eqb r.count x.count && eqb (r.next - x.place) x.len) (λ fault. false) ≡ true → x.count ≤ length t
    go (Ok r) q h =
        let n = r.count in
        let a : n ≡ x.count = eqb-true _ _ (both_true _ _ h).0 in
        by n (bounded t x.count x.place 0 q).1 a
      where
        by : (n : ℕ) → (0 < n → x.place + 2 * (n - 0) ≤ length t) → n ≡ x.count → x.count ≤ length t
        by zero k a = omega arith
        by (suc n) k a = omega (arith, k (omega arith))
    go (Err f) q h = absurd (false≢true h)

-- ---- a place behind the run

module _ (l : TextList) (at : ℕ) {b : Bool} (e : b ≡ is_empty l) where
  pub behind_none : b ≡ true → true ≡ is_behind l at
  unfolding is_behind
  behind_none k = rw (← e, k)

  pub before_run : b ≡ false → at < l.place → false ≡ is_behind l at
  unfolding is_behind
  before_run k h = rw (← e, k, ne_eqb (l.place + l.len) at (λ z. omega arith))

  pub behind_run : b ≡ false → l.place ≤ at → eqb (at - l.place) l.len ≡ is_behind l at
  unfolding is_behind
  behind_run k h = rw (← e, k) (go (eqb (l.place + l.len) at) refl)
    where
      go : (c : Bool) → eqb (l.place + l.len) at ≡ c → eqb (at - l.place) l.len ≡ c
      go true q = let z : l.place + l.len ≡ at = eqb-true _ _ q in eq-eqb (at - l.place) l.len (omega arith)
      go false q = ne_eqb (at - l.place) l.len (λ z. eqb-false (l.place + l.len) at q (omega arith))

-- ---- adding

module _ (t : List ℕ) (l : TextList) (number at : ℕ) where
  pub add_long : 65535 < length t → record { answer = InputTooLong (length t); list = l } ≡ added number t l at
  unfolding added add_refusal added_by ◌then◌
  add_long h = rw (lt-leb _ _ h)

  -- the tests as the code joins them: `ok` is that of the list and of the place
  module _ (f : length t ≤ 65535) (e : Option ℕ) (i : e ≡ entry_end t at) (behind good ok : Bool)
      (d : behind ≡ is_behind l at) (g : good ≡ is_list t l) (k : ok ≡ (good && behind)) where
    tested : add_refusal number t l at ≡ bad number (ok && is_some e)
    unfolding add_refusal ◌then◌
    tested = rw (le-leb _ _ f, ← i, ← d, ← g, k) (go good behind e)
      where
        go : (a b : Bool) (e : Option ℕ) → (bad number a then bad number (is_some e && b)) ≡ bad number ((a && b) && is_some e)
        go false b e = refl
        go true false None = refl
        go true false (Some n) = refl
        go true true None = refl
        go true true (Some n) = refl

    pub add_not : not ok ≡ true → record { answer = BadText number; list = l } ≡ added number t l at
    unfolding added added_by
    add_not h = rw (tested, not-true ok h)

    module _ (h : not ok ≡ false) where
      pub add_none : e ≡ None → record { answer = BadText number; list = l } ≡ added number t l at
      unfolding added added_by
      add_none q = rw (tested, not-false ok h, q)

      passed : (good ≡ true) × (behind ≡ true)
      passed = both_true good behind (sym k ∙ not-false ok h)

      module _ (end : ℕ) (q : e ≡ Some end) where
        pub add_onward : at ≤ end
        add_onward = omega (arith, entry_behind t at end (sym q ∙ i))

        module _ (b : Bool) (c : b ≡ is_empty l) where
          pub add_first : b ≡ true → record { answer = Done; list = run_of at end 1 } ≡ added number t l at
          unfolding added added_by
          add_first n = rw (tested, not-false ok h, ← i, q, ← c, n)

          module _ (n : b ≡ false) where
            pub add_behind : record { answer = Done; list = run_of l.place end (l.count + 1) } ≡ added number t l at
            unfolding added added_by
            add_behind = rw (tested, not-false ok h, ← i, q, ← c, n)

            -- the entry stands where the run ends
            pub add_place : l.place ≤ end
            unfolding is_behind
            add_place =
                let z : l.place + l.len ≡ at = eqb-true _ _ (rw (← c, n) at (sym d ∙ passed.1)) in
                omega (arith, add_onward)

            pub add_count : l.count ≤ length t
            add_count = few t l (sym g ∙ passed.0) (sym c ∙ n)
