-- Well-formed UTF-8, by Table 3-7 of the Unicode Standard.
use Rattle.std.specs.Prelude.{ℕ, zero, suc, ◌+◌, max, Bool, ◌&&◌, cond, List, [], ◌∷◌, length, drop, leb, eqb}
use Rattle.text.specs.declared.Checked.{Checked}

-- A range of bytes, both ends in it.
pub record Range : Type 0 where
  pub low : ℕ
  pub high : ℕ

infix 70 ◌to◌
abbrev pub ◌to◌ : ℕ → ℕ → Range
a to b = record { low = a; high = b }

abbrev pub within : Range → ℕ → Bool
within r b = leb r.low b && leb b r.high

-- Table 3-7: a row for each kind of sequence, and in it a range for each byte.
unfoldable pub rows : List (List Range)
rows =
    (0x00 to 0x7F ∷ [])
    ∷ (0xC2 to 0xDF ∷ 0x80 to 0xBF ∷ [])
    ∷ (0xE0 to 0xE0 ∷ 0xA0 to 0xBF ∷ 0x80 to 0xBF ∷ [])
    ∷ (0xE1 to 0xEC ∷ 0x80 to 0xBF ∷ 0x80 to 0xBF ∷ [])
    ∷ (0xED to 0xED ∷ 0x80 to 0x9F ∷ 0x80 to 0xBF ∷ [])
    ∷ (0xEE to 0xEF ∷ 0x80 to 0xBF ∷ 0x80 to 0xBF ∷ [])
    ∷ (0xF0 to 0xF0 ∷ 0x90 to 0xBF ∷ 0x80 to 0xBF ∷ 0x80 to 0xBF ∷ [])
    ∷ (0xF1 to 0xF3 ∷ 0x80 to 0xBF ∷ 0x80 to 0xBF ∷ 0x80 to 0xBF ∷ [])
    ∷ (0xF4 to 0xF4 ∷ 0x80 to 0x8F ∷ 0x80 to 0xBF ∷ 0x80 to 0xBF ∷ [])
    ∷ []

-- How many bytes of s, from its first on, lie in the row's ranges.
unfoldable pub agree : List Range → List ℕ → ℕ
agree [] s = 0
agree (r ∷ row) [] = 0
agree (r ∷ row) (b ∷ s) = cond (within r b) (suc (agree row s)) 0

-- The length of the sequence that s begins with: that of the first of the rows all of whose ranges agree, or 0 where there is none.
unfoldable pub seq_len : List (List Range) → List ℕ → ℕ
seq_len [] s = 0
seq_len (row ∷ rest) s = cond (eqb (agree row s) (length row)) (length row) (seq_len rest s)

-- The length of the sequences that s begins with, k at most. (Where there is none, a step goes by 0 bytes.)
unfoldable pub walk : ℕ → List ℕ → ℕ
walk zero s = 0
walk (suc k) s = seq_len rows s + walk k (drop (seq_len rows s) s)

-- The length of the longest well-formed beginning of s. No text has more sequences than bytes.
unfoldable pub good_len : List ℕ → ℕ
good_len s = walk (length s) s

-- How many bytes of s agree with the row that agrees with the most.
unfoldable pub best : List (List Range) → List ℕ → ℕ
best [] s = 0
best (row ∷ rest) s = max (agree row s) (best rest s)

-- How many bytes of t, which stands after the good beginning, are bad: none where all of t begins a sequence that more bytes could complete,
-- and else as many as begin a sequence, one at least.
unfoldable pub bad_len : List ℕ → ℕ
bad_len t = cond (eqb (best rows t) (length t)) 0 (max 1 (best rows t))

-- A text's good beginning, and how many bytes after it are bad: what Rust's `Utf8Error` calls `valid_up_to` and `error_len`, with 0 for `None`.
unfoldable pub checked : List ℕ → Checked
checked s = record { good = good_len s; bad = bad_len (drop (good_len s) s) }
