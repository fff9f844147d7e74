-- A row of text: words, with values among them. It is put piece by piece, one piece behind the other.
use Rattle.std.specs.Prelude.{ℕ, zero, suc, ◌+◌, ◌-◌, min, List, [], ◌∷◌, ◌++◌, eqb, length, take, drop, get_or}
use Rattle.octets.specs.Octets.{pick, field, big_endian, big_endian_bytes, put}
use Rattle.slices.specs.Slices.{index_of}
use Rattle.hex_text.specs.Hex.{spelled, decimal}
use Rattle.rows.specs.declared.Value.{Value}
use Rattle.rows.specs.declared.Value.TheVariants.{Absent, Nothing, Count, Signed, Hex, Part, Quoted, Listed}

-- ---- a value as it is shown
-- a text: its bytes in hex, between quotes
unfoldable pub quoted : List ℕ → List (List ℕ)
quoted bs = (0x22 ∷ []) ∷ spelled bs ∷ (0x22 ∷ []) ∷ []

-- the length that stands before a text, in two bytes
abbrev pub length_of : List ℕ → ℕ
length_of s = big_endian (take 2 s)

-- so many texts, each behind its length: a mark before the first, a comma before each other, a bracket at the end
unfoldable pub listed : ℕ → ℕ → List ℕ → List (List ℕ)
listed mark zero s = (0x5D ∷ []) ∷ []
listed mark (suc n) s = (mark ∷ []) ∷ (quoted (field s 2 (length_of s)) ++ listed 0x2C n (drop (2 + length_of s) s))

-- a list of so many texts
unfoldable pub bracketed : ℕ → List ℕ → List (List ℕ)
bracketed zero s = (0x5B ∷ 0x5D ∷ []) ∷ []
bracketed (suc n) s = listed 0x5B (suc n) s

-- a dash where it isn't given; nothing; a number in decimal; a sign and such a number; the last bytes of two numbers of eight bytes, so
-- many; bytes of the slice; a text of it; a list of texts
unfoldable pub shown : Value → List ℕ → List (List ℕ)
shown Absent slice = (0x2D ∷ []) ∷ []
shown Nothing slice = []
shown (Count n) slice = decimal n ∷ []
shown (Signed sign n) slice = (sign ∷ []) ∷ decimal n ∷ []
shown (Hex width high low) slice = spelled (drop (16 - width) (big_endian_bytes 8 high ++ big_endian_bytes 8 low)) ∷ []
shown (Part place len) slice = spelled (field slice place len) ∷ []
shown (Quoted place len) slice = quoted (field slice place len)
shown (Listed place count) slice = bracketed count (drop place slice)

-- ---- a row
-- a character before the others of the first piece
unfoldable pub led : ℕ → List (List ℕ) → List (List ℕ)
led c [] = (c ∷ []) ∷ []
led c (p ∷ ps) = (c ∷ p) ∷ ps

-- the pieces of a row: its words up to each `#`, and there the next value; nothing is shown where there is no value left
unfoldable pub pieces : List ℕ → List Value → List ℕ → List (List ℕ)
pieces [] values slice = [] ∷ []
pieces (c ∷ words) values slice =
    pick (eqb c 0x23)
    ([] ∷ (shown (get_or values 0 Nothing) slice ++ pieces words (drop 1 values) slice))
    (led c (pieces words values slice))

-- the row of a line that is of no known form: `? 0 -`
unfoldable pub other : List (List ℕ)
other = (0x3F ∷ 0x20 ∷ 0x30 ∷ 0x20 ∷ 0x2D ∷ 0x0A ∷ []) ∷ []

-- the words of a row by its number, where those of several stand one behind the other, each with its end
unfoldable pub numbered : ℕ → List ℕ → List ℕ
numbered zero words = take (suc (index_of 0x0A words)) words
numbered (suc n) words = numbered n (drop (suc (index_of 0x0A words)) words)

-- ---- an output with pieces
-- the place behind a piece, or the greatest number where that doesn't fit
abbrev pub past : ℕ → List ℕ → ℕ
past at p = min (at + length p) 18446744073709551615

-- the place behind the last of some pieces
unfoldable pub ends : ℕ → List (List ℕ) → ℕ
ends at [] = at
ends at (p ∷ ps) = ends (past at p) ps

-- an output with each piece at its place: all of it or, where it doesn't fit, nothing
unfoldable pub puts : List ℕ → ℕ → List (List ℕ) → List ℕ
puts d at [] = d
puts d at (p ∷ ps) = puts (put d at p) (past at p) ps
