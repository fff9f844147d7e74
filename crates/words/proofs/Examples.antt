-- Worked examples: the definitions at some texts, computed. No contract cites this file.
use mathlib.Core.Path.{◌≡◌, refl}
use mathlib.Core.List.{[], ◌∷◌}
use Rattle.std.specs.Prelude.{None, Some}
use Rattle.slices.specs.Slices.{index_after, index_of}
use Rattle.octets.specs.Octets.{behind, presence}
use Rattle.hex_text.specs.Hex.{led, pairs, worth}
use Rattle.words.specs.Words.{cut, words_of, same, place_of, key_of, value_of, are_digits, spells, decimal_of, hexadecimal_of, payload_of}

-- "ab  c": two spaces have an empty word between them
three_words : words_of (0x61 ∷ 0x62 ∷ 0x20 ∷ 0x20 ∷ 0x63 ∷ []) ≡ (0x61 ∷ 0x62 ∷ []) ∷ [] ∷ (0x63 ∷ []) ∷ []
unfolding cut
three_words = refl

-- "c" is the third of them, and "b" is none
third : place_of (0x63 ∷ []) (words_of (0x61 ∷ 0x62 ∷ 0x20 ∷ 0x20 ∷ 0x63 ∷ [])) ≡ 2
unfolding cut place_of same
third = refl

no_word : place_of (0x62 ∷ []) (words_of (0x61 ∷ 0x62 ∷ 0x20 ∷ 0x20 ∷ 0x63 ∷ [])) ≡ 3
unfolding cut place_of same
no_word = refl

-- "a=b=", and "ab" without a sign
a_key : key_of (0x61 ∷ 0x3D ∷ 0x62 ∷ 0x3D ∷ []) ≡ 0x61 ∷ 0x3D ∷ []
unfolding index_of index_after
a_key = refl

a_value : value_of (0x61 ∷ 0x3D ∷ 0x62 ∷ 0x3D ∷ []) ≡ 0x62 ∷ 0x3D ∷ []
unfolding index_of index_after
a_value = refl

no_sign : key_of (0x61 ∷ 0x62 ∷ []) ≡ 0x61 ∷ 0x62 ∷ []
unfolding index_of index_after
no_sign = refl

-- "018": zeros in front don't count; "1:" and "" are no numbers
in_decimal : decimal_of (0x30 ∷ 0x31 ∷ 0x38 ∷ []) ≡ Some 18
unfolding decimal_of presence are_digits spells
in_decimal = refl

no_digit : decimal_of (0x31 ∷ 0x3A ∷ []) ≡ None
unfolding decimal_of presence are_digits spells
no_digit = refl

no_digits : decimal_of [] ≡ None
unfolding decimal_of presence are_digits spells
no_digits = refl

-- "0Af0" is two bytes, and not one; "0Af" isn't either
two_bytes : hexadecimal_of 2 (0x30 ∷ 0x41 ∷ 0x66 ∷ 0x30 ∷ []) ≡ Some 0x0AF0
unfolding hexadecimal_of presence pairs led worth behind
two_bytes = refl

not_one : hexadecimal_of 1 (0x30 ∷ 0x41 ∷ 0x66 ∷ 0x30 ∷ []) ≡ None
unfolding hexadecimal_of presence pairs led worth behind
not_one = refl

odd : hexadecimal_of 1 (0x30 ∷ 0x41 ∷ 0x66 ∷ []) ≡ None
unfolding hexadecimal_of presence pairs led worth behind
odd = refl

-- "-", "0A", no text, and "0A0B" where there is room for one byte
a_dash : payload_of 1 (0x2D ∷ []) ≡ Some []
unfolding payload_of same
a_dash = refl

a_byte : payload_of 1 (0x30 ∷ 0x41 ∷ []) ≡ Some (0x0A ∷ [])
unfolding payload_of same presence pairs led worth
a_byte = refl

no_text : payload_of 1 [] ≡ None
unfolding payload_of same presence pairs
no_text = refl

no_room : payload_of 1 (0x30 ∷ 0x41 ∷ 0x30 ∷ 0x42 ∷ []) ≡ None
unfolding payload_of same presence pairs led worth
no_room = refl
