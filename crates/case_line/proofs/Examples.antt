-- Worked examples: what some lines print, computed. No contract cites this file.
use mathlib.Core.Path.{◌≡◌, refl}
use mathlib.Core.List.{[], ◌∷◌}
use Rattle.octets.specs.Octets.{if_set, flag_byte, behind, big_endian_bytes, address_of, bytes_if}
use Rattle.kind.specs.Layout.{walk, unless_broken, outcome}
use Rattle.fseid.specs.Fseid.{meaning, wire, record_of, refused, found, read}
use Rattle.hex_text.specs.Hex.{digit, spelled, worth, led, pairs, tens, decimal}
use Rattle.case_line.specs.Line.{row_of, row_for, all_pairs, payload, line_row, hex_or_dash, shown, printed}

-- "S -": the empty payload is short of 9 bytes, "1 0 -"
empty_payload : printed (0x53 ∷ 0x20 ∷ 0x2D ∷ []) ≡ 0x31 ∷ 0x20 ∷ 0x30 ∷ 0x20 ∷ 0x2D ∷ 0x0A ∷ []
unfolding printed shown line_row payload row_for row_of read found outcome refused decimal tens digit hex_or_dash
empty_payload = refl

-- "S 000000000000000005fF": nine bytes with no address, and a tenth that isn't used, "0 9 000000000000000005"
no_address : printed (0x53 ∷ 0x20 ∷ 0x30 ∷ 0x30 ∷ 0x30 ∷ 0x30 ∷ 0x30 ∷ 0x30 ∷ 0x30 ∷ 0x30 ∷ 0x30 ∷ 0x30 ∷ 0x30 ∷ 0x30 ∷ 0x30 ∷ 0x30 ∷ 0x30 ∷ 0x30 ∷ 0x30 ∷ 0x35 ∷ 0x66 ∷ 0x46 ∷ [])
    ≡ 0x30 ∷ 0x20 ∷ 0x39 ∷ 0x20 ∷ 0x30 ∷ 0x30 ∷ 0x30 ∷ 0x30 ∷ 0x30 ∷ 0x30 ∷ 0x30 ∷ 0x30 ∷ 0x30 ∷ 0x30 ∷ 0x30 ∷ 0x30 ∷ 0x30 ∷ 0x30 ∷ 0x30 ∷ 0x30 ∷ 0x30 ∷ 0x35 ∷ 0x0A ∷ []
unfolding printed shown line_row payload all_pairs pairs led worth row_for row_of read found outcome unless_broken walk record_of meaning wire if_set flag_byte behind big_endian_bytes address_of bytes_if decimal tens digit hex_or_dash spelled
no_address = refl

-- "", "S", "S ", "S  00", "S 000", "s 00", "S 00" and a carriage return: other lines
empty_line : printed [] ≡ 0x3F ∷ 0x20 ∷ 0x30 ∷ 0x20 ∷ 0x2D ∷ 0x0A ∷ []
unfolding printed shown line_row
empty_line = refl

letter_alone : printed (0x53 ∷ []) ≡ printed []
unfolding printed shown line_row
letter_alone = refl

nothing_behind : printed (0x53 ∷ 0x20 ∷ []) ≡ printed []
unfolding printed shown line_row payload
nothing_behind = refl

two_spaces : printed (0x53 ∷ 0x20 ∷ 0x20 ∷ 0x30 ∷ 0x30 ∷ []) ≡ printed []
unfolding printed shown line_row payload all_pairs pairs led worth
two_spaces = refl

odd_digits : printed (0x53 ∷ 0x20 ∷ 0x30 ∷ 0x30 ∷ 0x30 ∷ []) ≡ printed []
unfolding printed shown line_row payload all_pairs pairs led worth
odd_digits = refl

small_letter : printed (0x73 ∷ 0x20 ∷ 0x30 ∷ 0x30 ∷ []) ≡ printed []
unfolding printed shown line_row payload all_pairs pairs led worth row_for
small_letter = refl

carriage_return : printed (0x53 ∷ 0x20 ∷ 0x30 ∷ 0x30 ∷ 0x0D ∷ []) ≡ printed []
unfolding printed shown line_row payload all_pairs pairs led worth
carriage_return = refl
