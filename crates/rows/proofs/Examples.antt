-- Worked examples: the definitions at some rows, computed. No contract cites this file.
use mathlib.Core.Path.{◌≡◌, refl}
use mathlib.Core.List.{[], ◌∷◌}
use Rattle.slices.specs.Slices.{index_after, index_of}
use Rattle.octets.specs.Octets.{behind, big_endian_bytes, over, put}
use Rattle.hex_text.specs.Hex.{digit, spelled, tens, decimal}
use Rattle.rows.specs.Values.{hex_value}
use Rattle.rows.specs.declared.Value.TheVariants.{Absent, Nothing, Count, Signed, Part, Quoted, Listed}
use Rattle.rows.specs.Row.{quoted, listed, bracketed, shown, led, pieces, numbered, ends, puts}

-- each form: 12, @7, 0A1B of two bytes, the bytes 01 FF, a dash, nothing
a_count : shown (Count 12) [] ≡ (0x31 ∷ 0x32 ∷ []) ∷ []
unfolding shown decimal tens digit
a_count = refl

a_sign : shown (Signed 0x40 7) [] ≡ (0x40 ∷ []) ∷ (0x37 ∷ []) ∷ []
unfolding shown decimal tens digit
a_sign = refl

two_bytes : shown (hex_value 2 0x0A1B) [] ≡ (0x30 ∷ 0x41 ∷ 0x31 ∷ 0x42 ∷ []) ∷ []
unfolding shown spelled digit big_endian_bytes
two_bytes = refl

a_part : shown (Part 1 2) (9 ∷ 0x01 ∷ 0xFF ∷ 9 ∷ []) ≡ (0x30 ∷ 0x31 ∷ 0x46 ∷ 0x46 ∷ []) ∷ []
unfolding shown spelled digit
a_part = refl

a_dash : shown Absent [] ≡ (0x2D ∷ []) ∷ []
unfolding shown
a_dash = refl

not_shown : shown Nothing [] ≡ []
unfolding shown
not_shown = refl

-- "61", a text of one byte between quotes
a_text : shown (Quoted 0 1) (0x61 ∷ []) ≡ (0x22 ∷ []) ∷ (0x36 ∷ 0x31 ∷ []) ∷ (0x22 ∷ []) ∷ []
unfolding shown quoted spelled digit
a_text = refl

-- ["61",""], and []
two_texts : shown (Listed 0 2) (0 ∷ 1 ∷ 0x61 ∷ 0 ∷ 0 ∷ [])
    ≡ (0x5B ∷ []) ∷ (0x22 ∷ []) ∷ (0x36 ∷ 0x31 ∷ []) ∷ (0x22 ∷ []) ∷ (0x2C ∷ []) ∷ (0x22 ∷ []) ∷ [] ∷ (0x22 ∷ []) ∷ (0x5D ∷ []) ∷ []
unfolding shown bracketed listed quoted spelled digit behind
two_texts = refl

no_texts : shown (Listed 0 0) [] ≡ (0x5B ∷ 0x5D ∷ []) ∷ []
unfolding shown bracketed
no_texts = refl

-- `a#b#` with 5 and no second value: a, 5, b
a_row : pieces (0x61 ∷ 0x23 ∷ 0x62 ∷ 0x23 ∷ []) (Count 5 ∷ []) [] ≡ (0x61 ∷ []) ∷ (0x35 ∷ []) ∷ (0x62 ∷ []) ∷ [] ∷ []
unfolding pieces led shown decimal tens digit
a_row = refl

-- the second of two rows, `b`, and none behind it
second : numbered 1 (0x61 ∷ 0x0A ∷ 0x62 ∷ 0x0A ∷ []) ≡ 0x62 ∷ 0x0A ∷ []
unfolding numbered index_of index_after
second = refl

no_third : numbered 2 (0x61 ∷ 0x0A ∷ 0x62 ∷ 0x0A ∷ []) ≡ []
unfolding numbered index_of index_after
no_third = refl

-- a piece that doesn't fit isn't put, and its place stays free
one_fits : puts (0 ∷ 0 ∷ 0 ∷ []) 0 ((1 ∷ []) ∷ (2 ∷ 3 ∷ 4 ∷ []) ∷ []) ≡ 1 ∷ 0 ∷ 0 ∷ []
unfolding puts put over
one_fits = refl

behind_both : ends 0 ((1 ∷ []) ∷ (2 ∷ 3 ∷ 4 ∷ []) ∷ []) ≡ 4
unfolding ends
behind_both = refl
