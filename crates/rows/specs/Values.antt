-- The values of a row, as they are made.
use Rattle.std.specs.Prelude.{ℕ, suc, List, Option, Some, None, take, drop, ℤ, pos, negsuc}
use Rattle.octets.specs.Octets.{big_endian}
use Rattle.rows.specs.declared.Value.{Value}
use Rattle.rows.specs.declared.Value.TheVariants.{Absent, Count, Signed, Hex, Quoted}
use Rattle.texts.specs.declared.Text.{Text}

-- a value that may be absent
abbrev pub given : {A : Type 0} → (A → Value) → Option A → Value
given f None = Absent
given f (Some x) = f x

-- an integer: a number in decimal, behind a minus sign where it is below 0 (`negsuc n` is -1 - n)
abbrev pub integer_value : ℤ → Value
integer_value (pos n) = Count n
integer_value (negsuc n) = Signed 0x2D (suc n)

-- a number of so many bytes, eight at most, and the bytes of an address, in hex
abbrev pub hex_value : ℕ → ℕ → Value
hex_value width x = Hex width 0 x

abbrev pub ipv4_value : List ℕ → Value
ipv4_value octets = hex_value 4 (big_endian octets)

abbrev pub ipv6_value : List ℕ → Value
ipv6_value octets = Hex 16 (big_endian (take 8 octets)) (big_endian (take 8 (drop 8 octets)))

-- a text of the slice, between quotes
abbrev pub text_value : Text → Value
text_value t = Quoted t.place t.len
