-- Bytes as flags, numbers and addresses, and bytes put into an output.
use Rattle.std.specs.Prelude.{ℕ, zero, suc, ◌+◌, ◌*◌, ◌/◌, ◌%◌, ◌^◌, ◌<◌, List, [], ◌∷◌, ◌++◌, Bool, true, false, ◌&&◌, length, take, drop, leb, ltb, eqb}
use Rattle.std.specs.Prelude.{Option, None, Some}

-- one of two, by a test
abbrev pub pick {ℓ} : {A : Type ℓ} → Bool → A → A → A
pick true a b = a
pick false a b = b

-- whether bit k of a byte is set
abbrev pub bit : ℕ → ℕ → Bool
bit k b = eqb (b / 2 ^ k % 2) 1

-- a number where a flag is set, 0 where it isn't: a field's width, or what a flag adds to its byte
unfoldable pub if_set : Bool → ℕ → ℕ
if_set f n = pick f n 0

-- a byte of flags, bit 0 first
unfoldable pub flag_byte : List Bool → ℕ
flag_byte [] = 0
flag_byte (f ∷ fs) = if_set f 1 + 2 * flag_byte fs

-- a list whose elements are all bytes
abbrev pub Bytes : List ℕ → Type 0
Bytes [] = Unit
Bytes (b ∷ bs) = (b < 256) × Bytes bs

-- w bytes from a place on
abbrev pub field : List ℕ → ℕ → ℕ → List ℕ
field s at w = take w (drop at s)

-- the number whose bytes these are, most significant first, behind those of n
unfoldable pub behind : ℕ → List ℕ → ℕ
behind n [] = n
behind n (b ∷ bs) = behind (n * 256 + b) bs

-- the number whose bytes these are, most significant first
abbrev pub big_endian : List ℕ → ℕ
big_endian bs = behind 0 bs

-- the lowest w bytes of a number, most significant first
unfoldable pub big_endian_bytes : ℕ → ℕ → List ℕ
big_endian_bytes zero x = []
big_endian_bytes (suc w) x = big_endian_bytes w (x / 256) ++ (x % 256 ∷ [])

-- the n bytes of an address, absent where they are another number of bytes
unfoldable pub address_of : ℕ → List ℕ → Option (List ℕ)
address_of n bs = pick (eqb (length bs) n) (Some bs) None

-- a value under a flag
unfoldable pub presence : {A : Type 0} → Bool → A → Option A
presence given x = pick given (Some x) None

-- the number of these bytes, where there are one to w of them
abbrev pub is_number : ℕ → List ℕ → Bool
is_number w bs = ltb 0 (length bs) && leb (length bs) w

unfoldable pub number_of : ℕ → List ℕ → Option ℕ
number_of w bs = pick (is_number w bs) (Some (big_endian bs)) None

-- the bytes of a field that may be absent
unfoldable pub bytes_if : Option (List ℕ) → List ℕ
bytes_if None = []
bytes_if (Some bs) = bs

-- the w bytes of a number that may be absent
unfoldable pub number_if : ℕ → Option ℕ → List ℕ
number_if w None = []
number_if w (Some x) = big_endian_bytes w x

-- an output with these bytes from a place on
unfoldable pub over : List ℕ → ℕ → List ℕ → List ℕ
over d at bs = take at d ++ (bs ++ drop (at + length bs) d)

-- the same, and as it was where they don't all fit
unfoldable pub put : List ℕ → ℕ → List ℕ → List ℕ
put d at bs = pick (leb (at + length bs) (length d)) (over d at bs) d
