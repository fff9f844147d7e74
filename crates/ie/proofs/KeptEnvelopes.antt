-- The IE at a place of a body, and the last tests apart from those before them. No answer cites this file any more.
use Prim.Native.Nat.{ℕ, ◌+◌, ◌-◌, ◌≤◌, ◌<◌}
use mathlib.Core.Path.{◌≡◌, ap, sym, ◌∙◌}
use mathlib.Core.List.{List}
use mathlib.Core.Bool.{Bool, true, false, not, ◌||◌}
use native.Mathlib.Omega.{arith}
use lib.Dec.{eqb, leb}
use lib.ListN.{length, take, drop, length-drop}
use lib.Seq.{drop-drop}
use borrow.Author.Tests.{le-leb, lt-leb, not-false}
use Rattle.answer.specs.declared.Answer.{Answer}
use Rattle.answer.specs.declared.Answer.TheVariants.{Short}
use Rattle.std.specs.Prelude.{Some, None, Result, Ok, Err}
use Rattle.octets.specs.Octets.{if_set, big_endian}
use Rattle.ie.specs.Ie.{pair_at, type_of, length_of, is_vendor, extra, listed, ◌or◌then◌, envelope, record_of}
use Rattle.ie.specs.Steps.{IsWhole}

-- ---- two-byte numbers

-- behind a place
pub pair_drop : (s : List ℕ) (at k : ℕ) → pair_at (drop at s) k ≡ pair_at s (at + k)
pair_drop s at k = ap (λ (l : List ℕ). big_endian (take 2 l)) (drop-drop k at s)

pub type_drop : (s : List ℕ) (at : ℕ) → type_of (drop at s) ≡ pair_at s at
type_drop s at = let z : at + 0 ≡ at = omega arith in pair_drop s at 0 ∙ ap (pair_at s) z

-- ---- the tests, in their order

-- the last test, and a vendor's tests before it, of so many bytes and a length field
abbrev pub payload_test : ℕ → ℕ → Result ℕ Answer
payload_test n m = leb (4 + m) n or Short 0 (4 + m) n then Ok (4 + m)

abbrev pub vendor_tests : ℕ → ℕ → Result ℕ Answer
vendor_tests n m =
    leb 6 n or Short 0 6 n then
    leb 2 m or Short 0 2 m then
    payload_test n m

module _ (zs s : List ℕ) where
  module _ (head : 4 ≤ length s) {t n : ℕ} (a : t ≡ type_of s) (b : n ≡ length_of s) {m : Bool} (c : m ≡ not (eqb n 0) || listed t zs) where
    may : not (eqb (length_of s) 0) || listed (type_of s) zs ≡ m
    may = sym (c ∙ ap (λ (x : ℕ). not (eqb x 0) || listed t zs) b ∙ ap (λ (x : ℕ). not (eqb (length_of s) 0) || listed x zs) a)

    module _ (ok : not m ≡ false) {v : Bool} (d : v ≡ is_vendor t) where
      v_is : is_vendor (type_of s) ≡ v
      v_is = sym (d ∙ ap is_vendor a)

      pub by_vendor : v ≡ true → {r : Result ℕ Answer} → r ≡ vendor_tests (length s) n → r ≡ envelope zs s
      unfolding envelope if_set
      by_vendor e q = rw (le-leb _ _ head, may, not-false m ok, v_is, e, ← b) q

      pub by_other : v ≡ false → {r : Result ℕ Answer} → r ≡ payload_test (length s) n → r ≡ envelope zs s
      unfolding envelope if_set
      by_other e q = rw (le-leb _ _ head, may, not-false m ok, v_is, e, le-leb _ _ head, ← b, le-leb 0 n (omega arith)) q

-- the last tests
module _ (n m : ℕ) where
  pub cut : {r : Result ℕ Answer} → r ≡ Err (Short 0 (4 + m) n) → n < 4 + m → r ≡ payload_test n m
  cut q h = rw (lt-leb _ _ h) q

  pub whole : 4 + m ≤ n → Ok (4 + m) ≡ payload_test n m
  whole h = rw (le-leb _ _ h)

  pub no_vendor : {r : Result ℕ Answer} → r ≡ Err (Short 0 6 n) → n < 6 → r ≡ vendor_tests n m
  no_vendor q h = rw (lt-leb _ _ h) q

  pub too_small : {r : Result ℕ Answer} → r ≡ Err (Short 0 2 m) → 6 ≤ n → m < 2 → r ≡ vendor_tests n m
  too_small q k h = rw (le-leb _ _ k, lt-leb _ _ h) q

  pub vendor_last : {r : Result ℕ Answer} → r ≡ payload_test n m → 6 ≤ n → 2 ≤ m → r ≡ vendor_tests n m
  vendor_last q k h = rw (le-leb _ _ k, le-leb _ _ h) q

-- ---- the record of a whole IE

module _ (s : List ℕ) (at : ℕ) (w : IsWhole (drop at s)) where
  pub head_there : at + 4 ≤ length s
  head_there = omega (arith, w.0, length-drop at s)

  module _ {t n : ℕ} (a : t ≡ pair_at s at) (b : n ≡ pair_at s (at + 2)) {v : Bool} (d : v ≡ is_vendor t) where
    v_at : is_vendor (type_of (drop at s)) ≡ v
    v_at = ap is_vendor (type_drop s at ∙ sym a) ∙ sym d

    module _ (e : v ≡ true) where
      two_more : extra (type_of (drop at s)) ≡ 2
      unfolding if_set
      two_more = rw (v_at, e)

      pub number_there : at + 4 + 2 ≤ length s
      number_there = omega (arith, w.0, length-drop at s, two_more)

      pub counts_it : 2 ≤ n
      counts_it = omega (arith, w.1, pair_drop s at 2, two_more, b)

      pub vendor_record : {x : ℕ} → x ≡ pair_at s (at + 4) → record { raw_type = t; enterprise_id = Some x; place = 6; len = n - 2 } ≡ record_of (drop at s)
      unfolding record_of if_set
      vendor_record q = rw (v_at, e, type_drop s at, pair_drop s at 2, pair_drop s at 4, ← a, ← b, ← q)

    pub other_record : v ≡ false → record { raw_type = t; enterprise_id = None; place = 4; len = n } ≡ record_of (drop at s)
    unfolding record_of if_set
    other_record e = let z : n - 0 ≡ n = omega arith in rw (v_at, e, type_drop s at, pair_drop s at 2, ← a, ← b, z)
