-- The IE at the front, by the tests of the code.
use Prim.Native.Nat.{ℕ, suc, ◌+◌, ◌-◌, ◌*◌, ◌≤◌, ◌<◌}
use mathlib.Core.Path.{◌≡◌, refl, ap, sym, ◌∙◌}
use mathlib.Core.List.{List}
use mathlib.Core.Bool.{Bool, true, false, not, ◌||◌}
use native.Mathlib.Omega.{arith}
use lib.Dec.{eqb, leb}
use lib.ListN.{length, get_or}
use lib.Seq.{drop-cons}
use native.Mathlib.Numerals.{add-one}
use borrow.Author.Tests.{le-leb, lt-leb, leb-true}
use Rattle.answer.specs.declared.Answer.{Answer}
use Rattle.answer.specs.declared.Read.{Read}
use Rattle.answer.specs.declared.Answer.TheVariants.{Done, Short, InputTooLong, ZeroLength}
use Rattle.octets.specs.Octets.{pick, if_set, behind}
use Rattle.ie.specs.Ie.{pair_at, type_of, length_of, is_vendor, extra, listed, envelope, record_of, refused, found, read}
use Rattle.ie.specs.Steps.{IsWhole}
use Rattle.ie.specs.declared.Ie.{Ie}
use Rattle.std.specs.Prelude.{Some, None, Result, Ok, Err}

-- the number of two bytes
pub two_bytes : (s : List ℕ) (at : ℕ) {r : ℕ} → at + 2 ≤ length s → r ≡ get_or s at 0 * 256 + get_or s (at + 1) 0 → r ≡ pair_at s at
unfolding behind
two_bytes s at h e = rw (drop-cons s at 0 (omega (arith, h)), drop-cons s (suc at) 0 (omega (arith, h)), ← add-one at) (omega (arith, e))

-- ---- the tests, in their order

module _ (zs s : List ℕ) where
  pub no_head : length s < 4 → Err (Short 0 4 (length s)) ≡ envelope zs s
  unfolding envelope
  no_head h = rw (lt-leb _ _ h)

  module _ (head : 4 ≤ length s) {t n : ℕ} (a : t ≡ type_of s) (b : n ≡ length_of s) {m : Bool} (c : m ≡ not (eqb n 0) || listed t zs) where
    may : not (eqb (length_of s) 0) || listed (type_of s) zs ≡ m
    may = sym (c ∙ ap (λ (x : ℕ). not (eqb x 0) || listed t zs) b ∙ ap (λ (x : ℕ). not (eqb (length_of s) 0) || listed x zs) a)

    pub zero_length : m ≡ false → Err ZeroLength ≡ envelope zs s
    unfolding envelope
    zero_length e = rw (le-leb _ _ head, may, e)

    module _ (e : m ≡ true) {k : ℕ} (d : k ≡ extra t) where
      more : extra (type_of s) ≡ k
      more = ap extra (sym a) ∙ sym d

      pub no_vendor : length s < 4 + k → Err (Short 0 (4 + k) (length s)) ≡ envelope zs s
      unfolding envelope
      no_vendor h = rw (le-leb _ _ head, may, e, more, lt-leb _ _ h)

      module _ (vendor : 4 + k ≤ length s) where
        pub too_small : n < k → Err (Short 0 k n) ≡ envelope zs s
        unfolding envelope
        too_small h = rw (le-leb _ _ head, may, e, more, le-leb _ _ vendor, ← b, lt-leb _ _ h)

        module _ (counts : k ≤ n) where
          pub cut : length s < 4 + n → Err (Short 0 (4 + n) (length s)) ≡ envelope zs s
          unfolding envelope
          cut h = rw (le-leb _ _ head, may, e, more, le-leb _ _ vendor, ← b, le-leb _ _ counts, lt-leb _ _ h)

          pub whole : 4 + n ≤ length s → Ok (4 + n) ≡ envelope zs s
          unfolding envelope
          whole h = rw (le-leb _ _ head, may, e, more, le-leb _ _ vendor, ← b, le-leb _ _ counts, le-leb _ _ h)

-- ---- where an IE ends

-- one that isn't refused is whole and ends inside; a refusal isn't `Done`
abbrev Ending : List ℕ → Result ℕ Answer → Type 0
Ending s (Ok end) = IsWhole s × (4 + length_of s ≡ end) × (end ≤ length s)
Ending s (Err a) = a ≡ Done → ⊥

ending : (zs s : List ℕ) → Ending s (envelope zs s)
unfolding envelope
ending zs s =
    go (leb 4 n) (not (eqb m 0) || listed (type_of s) zs) (leb (4 + k) n) refl (leb k m) refl (leb (4 + m) n) refl
  where
    n : ℕ
    n = length s

    m : ℕ
    m = length_of s

    k : ℕ
    k = extra (type_of s)

    go : (a b c : Bool) → leb (4 + k) n ≡ c → (d : Bool) → leb k m ≡ d → (e : Bool) → leb (4 + m) n ≡ e
        → Ending s (pick a (pick b (pick c (pick d (pick e (Ok (4 + m)) (Err (Short 0 (4 + m) n))) (Err (Short 0 k m))) (Err (Short 0 (4 + k) n))) (Err ZeroLength)) (Err (Short 0 4 n)))
    go false b c o d p e q = λ z. (let y : ◌≡◌ {A = ℕ} 0 1 = cc in omega arith)
    go true false c o d p e q = λ z. (let y : ◌≡◌ {A = ℕ} 0 1 = cc in omega arith)
    go true true false o d p e q = λ z. (let y : ◌≡◌ {A = ℕ} 0 1 = cc in omega arith)
    go true true true o false p e q = λ z. (let y : ◌≡◌ {A = ℕ} 0 1 = cc in omega arith)
    go true true true o true p false q = λ z. (let y : ◌≡◌ {A = ℕ} 0 1 = cc in omega arith)
    go true true true o true p true q = ((leb-true _ _ o, leb-true _ _ p), refl, leb-true _ _ q)

module _ (zs s : List ℕ) {o : Result ℕ Answer} (p : o ≡ envelope zs s) where
  pub ends : {end : ℕ} → o ≡ Ok end → IsWhole s × (4 + length_of s ≡ end) × (end ≤ length s)
  ends {end} q = let z : envelope zs s ≡ Ok end = sym p ∙ q in rw z at (ending zs s)

  pub not_done : {a : Answer} → o ≡ Err a → a ≡ Done → ⊥
  not_done {a} q = let z : envelope zs s ≡ Err a = sym p ∙ q in rw z at (ending zs s)

-- what an IE's record says of its end
pub record_ends : (s : List ℕ) → IsWhole s → (record_of s).place + (record_of s).len ≡ 4 + length_of s
unfolding record_of
record_ends s w = omega (arith, w.1)

-- ---- the public call for one

module _ (zs s : List ℕ) where
  pub too_long : {r : Read Ie} → r ≡ refused (InputTooLong (length s)) → 65535 < length s → r ≡ read zs s
  unfolding read
  too_long q h = rw (lt-leb _ _ h) q

  module _ (small : length s ≤ 65535) {o : Result ℕ Answer} (p : o ≡ envelope zs s) where
    pub refused_one : {a : Answer} {r : Read Ie} → o ≡ Err a → r ≡ refused a → r ≡ read zs s
    unfolding read found
    refused_one q e = let z = sym p ∙ q in rw (le-leb _ _ small, z) e

    pub found_one : {end : ℕ} {ie : Ie} → o ≡ Ok end → ie ≡ record_of s → record { answer = Done; used = end; «record» = ie } ≡ read zs s
    unfolding read found
    found_one q e = let z = sym p ∙ q in rw (le-leb _ _ small, z, e)

-- ---- the record of a whole IE

module _ (s : List ℕ) (w : IsWhole s) {t : ℕ} (a : t ≡ type_of s) {v : Bool} (d : v ≡ is_vendor t) where
  v_is : is_vendor (type_of s) ≡ v
  v_is = ap is_vendor (sym a) ∙ sym d

  two_more : v ≡ true → extra (type_of s) ≡ 2
  unfolding if_set
  two_more e = rw (v_is, e)

  pub number_there : v ≡ true → 6 ≤ length s
  number_there e = omega (arith, w.0, two_more e)

module _ (s : List ℕ) (w : IsWhole s) {t n : ℕ} (a : t ≡ type_of s) (b : n ≡ length_of s) {v : Bool} (d : v ≡ is_vendor t) where
  pub counts_it : v ≡ true → 2 ≤ n
  counts_it e = omega (arith, w.1, two_more s w a d e, b)

  pub vendor_record : v ≡ true → {x : ℕ} → x ≡ pair_at s 4 → record { raw_type = t; enterprise_id = Some x; place = 6; len = n - 2 } ≡ record_of s
  unfolding record_of if_set
  vendor_record e q = rw (v_is s w a d, e, ← a, ← b, ← q)

  pub other_record : v ≡ false → record { raw_type = t; enterprise_id = None; place = 4; len = n } ≡ record_of s
  unfolding record_of if_set
  other_record e = let z : n - 0 ≡ n = omega arith in rw (v_is s w a d, e, ← a, ← b, z)
