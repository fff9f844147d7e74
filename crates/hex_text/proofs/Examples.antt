-- Worked examples: the definitions at some texts, computed. No contract cites this file.
use mathlib.Core.Path.{◌≡◌, refl}
use mathlib.Core.List.{[], ◌∷◌}
use Rattle.hex_text.specs.Hex.{digit, spelled, worth, led, pairs, tens, decimal}

-- "09AFaf", read, and written again in upper case
either_case : pairs 4096 (0x30 ∷ 0x39 ∷ 0x41 ∷ 0x46 ∷ 0x61 ∷ 0x66 ∷ []) ≡ 0x09 ∷ 0xAF ∷ 0xAF ∷ []
unfolding pairs led worth
either_case = refl

upper_case : spelled (0x09 ∷ 0xAF ∷ []) ≡ 0x30 ∷ 0x39 ∷ 0x41 ∷ 0x46 ∷ []
unfolding spelled digit
upper_case = refl

-- "12G4": G is no digit
past_f : pairs 2 (0x31 ∷ 0x32 ∷ 0x47 ∷ 0x34 ∷ []) ≡ 0x12 ∷ []
unfolding pairs led worth
past_f = refl

-- "123": an odd last digit isn't taken
odd : pairs 4096 (0x31 ∷ 0x32 ∷ 0x33 ∷ []) ≡ 0x12 ∷ []
unfolding pairs led worth
odd = refl

-- "1234", one pair at most
one_pair : pairs 1 (0x31 ∷ 0x32 ∷ 0x33 ∷ 0x34 ∷ []) ≡ 0x12 ∷ []
unfolding pairs led worth
one_pair = refl

nought : decimal 0 ≡ 0x30 ∷ []
unfolding decimal tens digit
nought = refl

-- "4096", "1000"
four_digits : decimal 4096 ≡ 0x34 ∷ 0x30 ∷ 0x39 ∷ 0x36 ∷ []
unfolding decimal tens digit
four_digits = refl

zeros_behind : decimal 1000 ≡ 0x31 ∷ 0x30 ∷ 0x30 ∷ 0x30 ∷ []
unfolding decimal tens digit
zeros_behind = refl
