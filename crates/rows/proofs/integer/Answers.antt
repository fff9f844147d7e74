-- `rows::integer` meets its contract: a number below 0 is -1 - n, and n is what is left of -1 without it.
use Prim.Native.Nat.{ℕ, suc, ◌+◌, ◌-◌, ◌<◌}
use native.Mathlib.Omega.{arith}
use native.Mathlib.Nat.{not-suc-le-zero}
use mathlib.Core.Path.{◌≡◌, refl, sym, ap, ◌∙◌}
use mathlib.Core.Bool.{true, false, false≢true}
use lib.IntN.{ℤ, pos, negsuc, ◌-ℤ◌}
use lib.Signed.{lt_z}
use mir.Syntax.{w32}
use mir.Val.{SFits, to_z, of_z}
use mir.ValLaws.{to_z-of_z}
use borrow.Author.Tests.{le-ltb, ltb-true}
use Rattle.rows.specs.Values.{integer_value}
use Rattle.rows.proofs.integer.Goals as goal

-- what is below 0 from -1 down
from_one : (n : ℕ) → negsuc 0 -ℤ negsuc n ≡ pos n
from_one n = let e : suc n - 1 ≡ n = omega arith in rw (le-ltb (suc n) 1 (omega arith)) (ap pos e)

-- what a number below 0 is
record Below (z : ℤ) : Type 0 where
  n : ℕ
  small : n < 2147483648
  is : z ≡ negsuc n

below : (z : ℤ) → SFits w32 z → lt_z z (pos 0) ≡ true → Below z
below (pos n) f h = absurd (not-suc-le-zero (ltb-true n 0 h))
below (negsuc n) f h = record { n = n; small = f.sfits; is = refl }

-- and any other
record Above (z : ℤ) : Type 0 where
  n : ℕ
  small : n < 2147483648
  is : z ≡ pos n

above : (z : ℤ) → SFits w32 z → lt_z z (pos 0) ≡ false → Above z
above (pos n) f h = record { n = n; small = f.sfits; is = refl }
above (negsuc n) f h = absurd (false≢true (sym h))

-- a signed local holds bits: z is what is read back from them
module _ (z : ℤ) (f : SFits w32 z) where
  module _ (h : lt_z (to_z w32 (of_z w32 z)) (pos 0) ≡ true) where
    b : Below z
    b = below z f (ap (λ (v : ℤ). lt_z v (pos 0)) (sym (to_z-of_z w32 z f)) ∙ h)

    left : negsuc 0 -ℤ to_z w32 (of_z w32 z) ≡ pos b.n
    left = ap (λ (v : ℤ). negsuc 0 -ℤ v) (to_z-of_z w32 z f ∙ b.is) ∙ from_one b.n

    left_fits : SFits w32 (negsuc 0 -ℤ to_z w32 (of_z w32 z))
    left_fits = record { sfits = rw left b.small }

    read_back : to_z w32 (of_z w32 (negsuc 0 -ℤ to_z w32 (of_z w32 z))) ≡ pos b.n
    read_back = to_z-of_z w32 _ left_fits ∙ left

  module _ (h : lt_z (to_z w32 (of_z w32 z)) (pos 0) ≡ false) where
    a : Above z
    a = above z f (ap (λ (v : ℤ). lt_z v (pos 0)) (sym (to_z-of_z w32 z f)) ∙ h)

    same : to_z w32 (of_z w32 z) ≡ pos a.n
    same = to_z-of_z w32 z f ∙ a.is

pub overflow_sub-result : goal.overflow_sub-result
overflow_sub-result c = left_fits c.args.x c.ranges.x c.if-x-lt0.true

pub overflow_cast-result : goal.overflow_cast-result
overflow_cast-result c =
    let x = c.args.x in
    let f = c.ranges.x in
    rw (read_back x f c.if-x-lt0.true) (tt, record { fits = omega (arith, (b x f c.if-x-lt0.true).small) })

pub overflow_add-result : goal.overflow_add-result
overflow_add-result c =
    let x = c.args.x in
    let f = c.ranges.x in
    rw (read_back x f c.if-x-lt0.true) (record { fits = omega (arith, (b x f c.if-x-lt0.true).small) })

pub returns-then-x-lt0 : goal.returns-then-x-lt0
returns-then-x-lt0 c =
    let x = c.args.x in
    let f = c.ranges.x in
    let n = (b x f c.if-x-lt0.true).n in
    let e : n + 1 ≡ suc n = omega arith in
    rw (read_back x f c.if-x-lt0.true, e) (sym (ap integer_value (b x f c.if-x-lt0.true).is))

pub overflow_cast-result-2 : goal.overflow_cast-result-2
overflow_cast-result-2 c =
    let x = c.args.x in
    let f = c.ranges.x in
    rw (same x f c.if-x-lt0.false) (tt, record { fits = omega (arith, (a x f c.if-x-lt0.false).small) })

pub returns : goal.returns
returns c =
    let x = c.args.x in
    let f = c.ranges.x in
    rw (same x f c.if-x-lt0.false) (sym (ap integer_value (a x f c.if-x-lt0.false).is))
