-- What a step of `decimal` answers. No promise of a public function cites this file.
use Rattle.std.specs.Prelude.{ℕ, ◌+◌, ◌-◌, ◌*◌, ◌^◌, ◌&&◌, ltb}
use Rattle.std.specs.Prelude.{Option}
use Rattle.octets.specs.Octets.{presence}
use Rattle.hex_text.specs.Hex.{within}

-- a number with a further digit, where the character is one and the number still fits
unfoldable pub with_digit : ℕ → ℕ → Option ℕ
with_digit n c = presence (within 0x30 0x39 c && ltb (n * 10 + (c - 0x30)) (2 ^ 64)) (n * 10 + (c - 0x30))
