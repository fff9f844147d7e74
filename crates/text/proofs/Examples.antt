-- Worked examples: the definitions at some texts, computed.
use mathlib.Core.Path.{◌≡◌, refl}
use mathlib.Core.List.{List, [], ◌∷◌, map}
use Prim.Native.Nat.{ℕ}
use Rattle.text.specs.Utf8.{rows, agree, seq_len, walk, good_len, best, bad_len, checked}

-- A text, its good length and how many bytes after that are bad.
pub record Example : Type 0 where
  pub text : List ℕ
  pub good : ℕ
  pub bad : ℕ

pub examples : List Example
examples =
    record { text = []; good = 0; bad = 0 }
    -- U+004D U+0430 U+4E8C U+10302, the Standard's example of the encoding form
    ∷ record { text = 0x4D ∷ 0xD0 ∷ 0xB0 ∷ 0xE4 ∷ 0xBA ∷ 0x8C ∷ 0xF0 ∷ 0x90 ∷ 0x8C ∷ 0x82 ∷ []; good = 10; bad = 0 }
    -- the greatest code point, and one past it
    ∷ record { text = 0xF4 ∷ 0x8F ∷ 0xBF ∷ 0xBF ∷ []; good = 4; bad = 0 }
    ∷ record { text = 0xF4 ∷ 0x90 ∷ 0x80 ∷ 0x80 ∷ []; good = 0; bad = 1 }
    -- overlong forms of two and of three bytes
    ∷ record { text = 0x41 ∷ 0xC0 ∷ 0xAF ∷ []; good = 1; bad = 1 }
    ∷ record { text = 0xE0 ∷ 0x9F ∷ 0x80 ∷ []; good = 0; bad = 1 }
    -- a surrogate
    ∷ record { text = 0xED ∷ 0xA0 ∷ 0x80 ∷ []; good = 0; bad = 1 }
    -- sequences that the next one cuts off, and one that the text's end does
    ∷ record { text = 0xE1 ∷ 0x80 ∷ 0xE2 ∷ 0xF0 ∷ 0x91 ∷ 0x92 ∷ 0xF1 ∷ 0xBF ∷ 0x41 ∷ []; good = 0; bad = 2 }
    ∷ record { text = 0x41 ∷ 0xF0 ∷ 0x91 ∷ 0x92 ∷ 0x41 ∷ []; good = 1; bad = 3 }
    ∷ record { text = 0x61 ∷ 0xC3 ∷ []; good = 1; bad = 0 }
    -- three bytes of four, and then nothing or a byte that does not belong there
    ∷ record { text = 0xF0 ∷ 0x90 ∷ 0x80 ∷ []; good = 0; bad = 0 }
    ∷ record { text = 0xF1 ∷ 0x80 ∷ 0x80 ∷ 0x41 ∷ []; good = 0; bad = 3 }
    -- two bytes of four and of three, and then such a byte
    ∷ record { text = 0xF0 ∷ 0x90 ∷ 0x41 ∷ []; good = 0; bad = 2 }
    ∷ record { text = 0xE1 ∷ 0x80 ∷ 0x41 ∷ []; good = 0; bad = 2 }
    -- a second byte that its first does not allow: no byte after them could help, so they are bad at the text's end too
    ∷ record { text = 0xF0 ∷ 0x8F ∷ []; good = 0; bad = 1 }
    ∷ record { text = 0xED ∷ 0xA0 ∷ []; good = 0; bad = 1 }
    ∷ []

pub computed : map (λ (e : Example). checked e.text) examples ≡ map (λ (e : Example). record { good = e.good; bad = e.bad }) examples
unfolding examples checked bad_len best good_len walk seq_len agree rows
computed = refl
