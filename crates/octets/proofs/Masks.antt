-- Laws of a byte's bits under a mask. No contract cites this file.
use Prim.Native.Nat.{ℕ, zero, suc, ◌+◌, ◌-◌, ◌*◌, ◌/◌, ◌%◌, ◌^◌, ◌<◌, min}
use native.Mathlib.Omega.{arith}
use native.Mathlib.Nat.{pow-suc, div-one}
use native.Mathlib.Numerals.{one-add, add-one}
use mathlib.Core.Path.{◌≡◌, sym, ap, ◌∙◌}
use mathlib.Core.Bool.{Bool, true, false, ◌&&◌}
use mathlib.Core.List.{List, [], ◌∷◌}
use lib.Dec.{eqb}
use lib.Bits.{bit_and, and_step, and_zero_r, and_mask}
use lib.Pow.{shr-shr}
use borrow.Author.Tests.{eqb-true}
use Rattle.octets.specs.Octets.{bit, if_set, flag_byte}
use Rattle.octets.proofs.Laws.{if_set_le_law, bit_weight, bits_from, flags_kept}

half_and : (b m : ℕ) → bit_and b m / 2 ≡ bit_and (b / 2) (m / 2)
half_and b m = omega (arith, and_step b m)

odd_and : (b m : ℕ) → bit_and b m % 2 ≡ min (b % 2) (m % 2)
odd_and b m = omega (arith, and_step b m)

-- a bit of the mask is as it was
pub bit_kept : (j b m : ℕ) → bit j m ≡ true → bit j (bit_and b m) ≡ bit j b
bit_kept j b m h = ap (λ (x : ℕ). eqb x 1) (go j b m (eqb-true _ _ h))
  where
    go : (j b m : ℕ) → m / 2 ^ j % 2 ≡ 1 → bit_and b m / 2 ^ j % 2 ≡ b / 2 ^ j % 2
    go zero b m h = omega (arith, odd_and b m)
    go (suc j) b m h =
        half (bit_and b m) ∙ ap (λ (x : ℕ). x / 2 ^ j % 2) (half_and b m) ∙ go j (b / 2) (m / 2) (sym (half m) ∙ h) ∙ sym (half b)
      where
        half : (n : ℕ) → n / 2 ^ suc j % 2 ≡ n / 2 / 2 ^ j % 2
        half n = rw (← one-add j, ← shr-shr n 1 j)

-- what is kept twice is kept
below_power : (b : ℕ) → b < 2 ^ b
below_power zero = omega arith
below_power (suc b) = omega (arith, pow-suc 2 b, below_power b)

pub and_and : (b m : ℕ) → bit_and (bit_and b m) m ≡ bit_and b m
and_and b m = go b b m (below_power b)
  where
    go : (k b m : ℕ) → b < 2 ^ k → bit_and (bit_and b m) m ≡ bit_and b m
    go zero b m h = let z : b ≡ 0 = omega arith in rw z
    go (suc k) b m h =
        let x = bit_and b m in
        let e : bit_and (x / 2) (m / 2) ≡ bit_and (b / 2) (m / 2) = ap (λ (y : ℕ). bit_and y (m / 2)) (half_and b m) ∙ go k (b / 2) (m / 2) (omega (arith, pow-suc 2 k)) in
        omega (arith, e, and_step x m, and_step b m, odd_and b m)

-- the flags read from the low k bits of a byte are the byte under a mask of those bits
pub flags_low : (k b : ℕ) → flag_byte (bits_from 0 k b) ≡ bit_and b (2 ^ k - 1)
flags_low k b = flags_kept k b ∙ sym (and_mask b k)

-- flags that were read and are on in a list of flags, from bit j on
abbrev pub kept_from : ℕ → List Bool → ℕ → List Bool
kept_from j [] b = []
kept_from j (f ∷ fs) b = (f && bit j b) ∷ kept_from (suc j) fs b

low_masked : (j b : ℕ) (f : Bool) → if_set (f && bit j b) 1 ≡ min (b / 2 ^ j % 2) (if_set f 1)
unfolding if_set
low_masked j b true = omega (arith, bit_weight j b 1)
low_masked j b false = omega arith

masked_from : (j : ℕ) (fs : List Bool) (b : ℕ) → flag_byte (kept_from j fs b) ≡ bit_and (b / 2 ^ j) (flag_byte fs)
unfolding flag_byte
masked_from j [] b = sym (and_zero_r (b / 2 ^ j))
masked_from j (f ∷ fs) b =
    let x = b / 2 ^ j in
    let m = if_set f 1 + 2 * flag_byte fs in
    let h : m / 2 ≡ flag_byte fs = omega (arith, if_set_le_law f 1) in
    let o : m % 2 ≡ if_set f 1 = omega (arith, if_set_le_law f 1) in
    let up : x / 2 ≡ b / 2 ^ suc j = rw add-one at (shr-shr b j 1) in
    let e : bit_and (x / 2) (m / 2) ≡ bit_and (b / 2 ^ suc j) (flag_byte fs) = rw (h, up) in
    omega (arith, masked_from (suc j) fs b, and_step x m, e, o, low_masked j b f)

-- they make the byte under the mask of the list
pub masked : (fs : List Bool) (b : ℕ) → flag_byte (kept_from 0 fs b) ≡ bit_and b (flag_byte fs)
masked fs b = masked_from 0 fs b ∙ ap (λ (x : ℕ). bit_and x (flag_byte fs)) (div-one b)
