-- Texts as places in a lent slice.
use Rattle.std.specs.Prelude.{ℕ, ◌+◌, Bool, ◌&&◌, List, leb, eqb, length, take, drop}
use Rattle.text.specs.Utf8.{good_len}
use Rattle.texts.specs.declared.Text.{Text}

-- the bytes of a text
abbrev pub bytes_of_text : List ℕ → Text → List ℕ
bytes_of_text texts t = take t.len (drop t.place texts)

-- it ends within its slice and is UTF-8
unfoldable pub is_text : List ℕ → Text → Bool
is_text texts t = leb (t.place + t.len) (length texts) && eqb (good_len (bytes_of_text texts t)) t.len
