-- Bytes in hex, and numbers in decimal, as ASCII text.
use Rattle.std.specs.Prelude.{ℕ, zero, suc, ◌+◌, ◌-◌, ◌*◌, ◌/◌, ◌%◌, Bool, ◌&&◌, List, [], ◌∷◌, ◌++◌, leb, ltb}
use Rattle.std.specs.Prelude.{Option, None, Some}
use Rattle.octets.specs.Octets.{pick}

-- the upper-case digit of a number below 16: 0 to 9, then A to F
unfoldable pub digit : ℕ → ℕ
digit n = pick (ltb n 10) (0x30 + n) (0x41 + (n - 10))

-- bytes in upper-case hex, two digits a byte
unfoldable pub spelled : List ℕ → List ℕ
spelled [] = []
spelled (b ∷ bs) = digit (b / 16) ∷ digit (b % 16) ∷ spelled bs

-- whether a character lies from one to another, both counted
abbrev pub within : ℕ → ℕ → ℕ → Bool
within low high c = leb low c && leb c high

-- what a digit of either case is worth: 0 to 9, A to F, a to f; none for any other character
unfoldable pub worth : ℕ → Option ℕ
worth c =
    pick (within 0x30 0x39 c) (Some (c - 0x30))
    (pick (within 0x41 0x46 c) (Some (c - 0x41 + 10))
    (pick (within 0x61 0x66 c) (Some (c - 0x61 + 10))
    None))

-- a list that begins with the byte of two digits, and none where they aren't both digits
unfoldable pub led : Option ℕ → Option ℕ → List ℕ → List ℕ
led (Some high) (Some low) bs = (high * 16 + low) ∷ bs
led (Some high) None bs = []
led None low bs = []

-- the bytes of the digit pairs that a text begins with, n at most
unfoldable pub pairs : ℕ → List ℕ → List ℕ
pairs zero s = []
pairs (suc n) [] = []
pairs (suc n) (c ∷ []) = []
pairs (suc n) (c ∷ d ∷ s) = led (worth c) (worth d) (pairs n s)

-- a number's decimal digits, k at most: its last digit, behind those of its tenth where that isn't 0
unfoldable pub tens : ℕ → ℕ → List ℕ
tens zero n = []
tens (suc k) n = pick (ltb n 10) [] (tens k (n / 10)) ++ (digit (n % 10) ∷ [])

-- a number's decimal digits, no zero in front. No number has more digits than one more than itself
unfoldable pub decimal : ℕ → List ℕ
decimal n = tens (suc n) n
