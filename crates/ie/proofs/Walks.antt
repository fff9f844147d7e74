-- All IEs from a place on: the one there, and what stands behind it.
use Prim.Native.Nat.{ℕ, zero, suc, ◌+◌, ◌-◌, ◌≤◌, ◌<◌}
use mathlib.Core.Path.{◌≡◌, refl, ap, sym, ◌∙◌}
use mathlib.Core.List.{List, [], ◌∷◌}
use mathlib.Core.Bool.{Bool, true, false}
use native.Mathlib.Omega.{arith}
use lib.Dec.{eqb}
use lib.ListN.{length, take, drop, length-drop}
use lib.Seq.{drop-drop, take_all}
use borrow.Author.Tests.{eq-eqb, ne_eqb}
use Rattle.answer.specs.declared.Answer.{Answer}
use Rattle.octets.specs.Octets.{pick}
use Rattle.ie.proofs.Envelopes.{ends}
use Rattle.ie.specs.Ie.{length_of, Rows, all, guilty, before, on_envelope, record_of, row_of, envelope, walk, ies}
use Rattle.ie.specs.Steps.{IsWhole, counted}
use Rattle.std.specs.Prelude.{Result, Ok, Err, MatchResult, IsErrAnd, is_ok}
use Rattle.ie.specs.declared.Guilty.{Guilty}

-- turns enough are as good as more
enough : (m n : ℕ) (zs : List ℕ) (at : ℕ) (s : List ℕ) → length s ≤ m → length s ≤ n → walk m zs at s ≡ walk n zs at s
unfolding walk
enough zero zero zs at s h k = refl
enough zero (suc n) zs at s h k = rw (eq-eqb (length s) 0 (omega arith))
enough (suc m) zero zs at s h k = rw (eq-eqb (length s) 0 (omega arith))
enough (suc m) (suc n) zs at s h k = go (eqb (length s) 0) (envelope zs s) refl (enough m n zs)
  where
    go : (b : Bool) (o : Result ℕ Answer) → o ≡ envelope zs s → ((at : ℕ) (s : List ℕ) → length s ≤ m → length s ≤ n → walk m zs at s ≡ walk n zs at s)
        → pick b (all []) (on_envelope at s o (λ end. walk m zs (at + end) (drop end s))) ≡ pick b (all []) (on_envelope at s o (λ end. walk n zs (at + end) (drop end s)))
    go true o q ih = refl
    go false (Err a) q ih = refl
    go false (Ok end) q ih =
        let w = ends zs s q refl in
        ap (before _) (ih (at + end) (drop end s) (omega (arith, length-drop end s, w.1, w.2)) (omega (arith, length-drop end s, w.1, w.2)))

-- one IE after another: no count of turns is left in it
pub turn : (zs : List ℕ) (at : ℕ) (s : List ℕ) → 0 < length s → ies zs at s ≡ on_envelope at s (envelope zs s) (λ end. ies zs (at + end) (drop end s))
unfolding ies walk
turn zs at [] h = absurd (omega arith)
turn zs at (b ∷ s) h = rw (ne_eqb (suc (length s)) 0 (λ z. omega arith)) (go (envelope zs (b ∷ s)) refl)
  where
    go : (o : Result ℕ Answer) → o ≡ envelope zs (b ∷ s)
        → on_envelope at (b ∷ s) o (λ end. walk (length s) zs (at + end) (drop end (b ∷ s))) ≡ on_envelope at (b ∷ s) o (λ end. walk (length (drop end (b ∷ s))) zs (at + end) (drop end (b ∷ s)))
    go (Err a) q = refl
    go (Ok end) q =
        let w = ends zs (b ∷ s) q refl in
        let l : length (drop end (b ∷ s)) ≡ suc (length s) - end = length-drop end (b ∷ s) in
        ap (before _) (enough (length s) (length (drop end (b ∷ s))) zs (at + end) (drop end (b ∷ s)) (omega (arith, l, w.1, w.2)) (omega arith))

pub none_left : (zs : List ℕ) (at : ℕ) (s : List ℕ) → length s ≤ 0 → ies zs at s ≡ all []
unfolding ies walk
none_left zs at [] h = refl
none_left zs at (b ∷ s) h = absurd (omega arith)

module _ (zs s : List ℕ) (at : ℕ) where
  pub past : length s ≤ at → ies zs at (drop at s) ≡ all []
  past h = none_left zs at (drop at s) (omega (arith, length-drop at s))

  -- the IE at a place of the body
  module _ (lt : at < length s) {o : Result ℕ Answer} (e : o ≡ envelope zs (drop at s)) where
    pub stopped : {a : Answer} → o ≡ Err a → ies zs at (drop at s) ≡ guilty at a
    stopped q = let z = sym e ∙ q in turn zs at (drop at s) (omega (arith, length-drop at s)) ∙ rw z

    module _ {end : ℕ} (q : o ≡ Ok end) where
      pub inside : IsWhole (drop at s) × (4 + length_of (drop at s) ≡ end) × (at + end ≤ length s)
      inside = let w = ends zs (drop at s) e q in (w.0, w.1, omega (arith, length-drop at s, w.2))

      pub stepped : ies zs at (drop at s) ≡ before (row_of at (record_of (drop at s))) (ies zs (at + end) (drop (at + end) s))
      stepped = let z = sym e ∙ q in turn zs at (drop at s) (omega (arith, length-drop at s)) ∙ rw (z, drop-drop end at s)

-- ---- the count

-- where an IE ends, or its refusal, by the count's view of it
pub mapped_ok : (o : Result ℕ Answer) (F : Answer → Guilty → Type 0) {r : Result ℕ Guilty} {end : ℕ} → MatchResult o (λ n. r ≡ Ok n) (λ a. IsErrAnd r (F a)) → r ≡ Ok end → o ≡ Ok end
mapped_ok (Ok n) F k e = cc
mapped_ok (Err a) F k e = absurd (rw e at k)

pub mapped_err : (o : Result ℕ Answer) {r : Result ℕ Guilty} {g : Guilty} → is_ok r ≡ is_ok o → r ≡ Err g → (a : Answer) × (o ≡ Err a)
mapped_err (Ok n) v e = let z : false ≡ true = rw e at v in let y : ◌≡◌ {A = ℕ} 0 1 = cc in absurd (omega arith)
mapped_err (Err a) v e = (a, refl)

counted_before : (n : ℕ) (row : List ℕ) (r : Rows) → counted (n + 1) r ≡ counted n (before row r)
unfolding counted before
counted_before n row (all rows) = ap Ok (omega arith)
counted_before n row (guilty place a) = refl

module _ (zs s : List ℕ) (at n : ℕ) {total : Result ℕ Guilty} (inv : counted n (ies zs at (drop at s)) ≡ total) where
  pub count_end : length s ≤ at → Ok n ≡ total
  unfolding counted
  count_end h = let z : n + 0 ≡ n = omega arith in ap Ok (sym z) ∙ (rw (past zs s at h) at inv)

  -- the code lends all that is left
  module _ (lt : at < length s) {o : Result ℕ Answer} (lent : o ≡ envelope zs (take (length s - at) (drop at s))) where
    e : o ≡ envelope zs (drop at s)
    e = lent ∙ ap (envelope zs) (take_all (length s - at) (drop at s) (omega (arith, length-drop at s)))

    pub count_stop : {a : Answer} → o ≡ Err a → Err (record { place = at; answer = a }) ≡ total
    unfolding counted
    count_stop q = rw (stopped zs s at lt e q) at inv

    module _ {end : ℕ} (q : o ≡ Ok end) where
      pub passed : (4 ≤ end) × (at + end ≤ length s)
      passed = let w = inside zs s at lt e q in (omega (arith, w.1), w.2)

      pub count_step : counted (n + 1) (ies zs (at + end) (drop (at + end) s)) ≡ total
      count_step = counted_before n _ _ ∙ (rw (stepped zs s at lt e q) at inv)
