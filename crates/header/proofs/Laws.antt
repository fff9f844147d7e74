-- Laws of the header's first byte and places. No contract cites this file.
use Prim.Native.Nat.{ℕ, zero, suc, ◌+◌, ◌/◌, ◌≤◌, ◌<◌}
use native.Mathlib.Omega.{arith}
use mathlib.Core.Path.{◌≡◌, refl, ap, ◌∙◌}
use mathlib.Core.Bool.{Bool, true, false}
use mathlib.Core.List.{List, [], ◌∷◌}
use lib.Bits.{bit_and}
use lib.ListN.{length, get_or}
use Rattle.octets.specs.Octets.{bit, if_set, flag_byte, field}
use Rattle.octets.proofs.Laws.{bit_weight}
use Rattle.octets.proofs.Masks.{masked}

-- twice four bytes are eight
pub two_halves : (f : Bool) → (if_set f 8 ≡ if_set f 4 + if_set f 4) × (if_set f 4 ≤ 4)
unfolding if_set
two_halves true = (omega arith, omega arith)
two_halves false = (omega arith, omega arith)

-- the version is the high three bits
pub version_read : (b : ℕ) → b < 256 → b / 32 ≡ flag_byte (bit 5 b ∷ bit 6 b ∷ bit 7 b ∷ [])
unfolding flag_byte
version_read b h = omega (arith, bit_weight 5 b 1, bit_weight 6 b 1, bit_weight 7 b 1)

-- a byte is a field of one
pub first_field : (i : ℕ) (s : List ℕ) → get_or (field s i 1) 0 0 ≡ get_or s i 0
first_field zero [] = refl
first_field zero (b ∷ s) = refl
first_field (suc i) [] = refl
first_field (suc i) (b ∷ s) = first_field i s

pub byte_field : (i : ℕ) (s : List ℕ) → i < length s → field s i 1 ≡ get_or s i 0 ∷ []
byte_field i [] h = absurd (omega arith)
byte_field zero (b ∷ s) h = refl
byte_field (suc i) (b ∷ s) h = byte_field i s (omega arith)

-- three bits of a number that was made of them
version_bits : (x y z : Bool) → (bit 0 (flag_byte (x ∷ y ∷ z ∷ [])) ≡ x) × (bit 1 (flag_byte (x ∷ y ∷ z ∷ [])) ≡ y) × (bit 2 (flag_byte (x ∷ y ∷ z ∷ [])) ≡ z)
unfolding flag_byte if_set
version_bits true true true = (refl, refl, refl)
version_bits true true false = (refl, refl, refl)
version_bits true false true = (refl, refl, refl)
version_bits true false false = (refl, refl, refl)
version_bits false true true = (refl, refl, refl)
version_bits false true false = (refl, refl, refl)
version_bits false false true = (refl, refl, refl)
version_bits false false false = (refl, refl, refl)

-- the first byte that is written is the one that was read, bits 3 and 4 aside
pub first_again : (b : ℕ) → let v = flag_byte (bit 5 b ∷ bit 6 b ∷ bit 7 b ∷ []) in flag_byte (bit 0 b ∷ bit 1 b ∷ bit 2 b ∷ false ∷ false ∷ bit 0 v ∷ bit 1 v ∷ bit 2 v ∷ []) ≡ bit_and b 0xE7
first_again b =
    let (p, q, r) = version_bits (bit 5 b) (bit 6 b) (bit 7 b) in
    rw (p, q, r) (masked (true ∷ true ∷ true ∷ false ∷ false ∷ true ∷ true ∷ true ∷ []) b ∙ ap (bit_and b) mask)
  where
    mask : flag_byte (true ∷ true ∷ true ∷ false ∷ false ∷ true ∷ true ∷ true ∷ []) ≡ 0xE7
    mask = unfold flag_byte if_set in refl
