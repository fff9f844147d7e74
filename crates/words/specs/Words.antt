-- Words of a line, and what they say: keys, values, numbers, payloads.
use Rattle.std.specs.Prelude.{ℕ, suc, ◌+◌, ◌-◌, ◌*◌, ◌^◌, Bool, true, false, ◌&&◌, List, [], ◌∷◌, ◌++◌, eqb, ltb, length, take, drop}
use Rattle.std.specs.Prelude.{Option, Some}
use Rattle.slices.specs.Slices.{index_of}
use Rattle.octets.specs.Octets.{pick, big_endian, presence}
use Rattle.hex_text.specs.Hex.{within, pairs}

-- ---- words
-- a text cut at each space, behind what there is already of its first word
unfoldable pub cut : List ℕ → List ℕ → List (List ℕ)
cut word [] = word ∷ []
cut word (c ∷ s) = pick (eqb c 0x20) (word ∷ cut [] s) (cut (word ++ (c ∷ [])) s)

-- the words of a text, one space between two of them
abbrev pub words_of : List ℕ → List (List ℕ)
words_of s = cut [] s

-- whether two words are the same
unfoldable pub same : List ℕ → List ℕ → Bool
same [] [] = true
same [] (d ∷ t) = false
same (c ∷ s) [] = false
same (c ∷ s) (d ∷ t) = eqb c d && same s t

-- the place of a word among others; how many these are where it isn't there
unfoldable pub place_of : List ℕ → List (List ℕ) → ℕ
place_of word [] = 0
place_of word (w ∷ words) = pick (same w word) 0 (suc (place_of word words))

-- a word up to its first `=`, that sign too; the whole word where there is none
abbrev pub key_of : List ℕ → List ℕ
key_of word = take (suc (index_of 0x3D word)) word

-- what stands behind that sign
abbrev pub value_of : List ℕ → List ℕ
value_of word = drop (suc (index_of 0x3D word)) word

-- ---- numbers
-- whether all characters of a text are decimal digits
unfoldable pub are_digits : List ℕ → Bool
are_digits [] = true
are_digits (c ∷ s) = within 0x30 0x39 c && are_digits s

-- the number that decimal digits spell, behind those of n
unfoldable pub spells : ℕ → List ℕ → ℕ
spells n [] = n
spells n (c ∷ s) = spells (n * 10 + (c - 0x30)) s

-- a number in decimal: digits, at least one, that spell a number below 2 ^ 64
unfoldable pub decimal_of : List ℕ → Option ℕ
decimal_of s = presence (ltb 0 (length s) && (are_digits s && ltb (spells 0 s) (2 ^ 64))) (spells 0 s)

-- whether a text is digit pairs, so many at most, and nothing else
abbrev pub are_pairs : ℕ → List ℕ → Bool
are_pairs most s = eqb (2 * length (pairs most s)) (length s)

-- a number in hex: so many digit pairs, one to eight, and nothing else
unfoldable pub hexadecimal_of : ℕ → List ℕ → Option ℕ
hexadecimal_of width s = presence (ltb 0 width && (eqb (length (pairs 8 s)) width && are_pairs 8 s)) (big_endian (pairs 8 s))

-- ---- payloads
-- the payload of a text, where there is room for so many bytes: no byte for a dash; else digit pairs, at least one, and nothing else
unfoldable pub payload_of : ℕ → List ℕ → Option (List ℕ)
payload_of room s = pick (same s (0x2D ∷ [])) (Some []) (presence (ltb 0 (length s) && are_pairs room s) (pairs room s))
