-- What the private functions answer: nothing here is the paper's. No promise of a public function cites this file.
use Rattle.std.specs.Prelude.{ℕ, ◌+◌, ◌≤◌, ◌<◌, ◌≡◌, Bool, false, cond, List, [], ◌∷◌, length, drop, get_or, map}
use denote.Ref.{Bor}
use Rattle.text.specs.declared.Bytes.{Bytes}
use Rattle.text.specs.Utf8.{Range, ◌to◌, within, good_len}

-- What a third or a fourth byte may be.
abbrev pub trail : Range
trail = 0x80 to 0xBF

-- The range that the code's `Bytes` are, and those of a row of its table.
abbrev pub range_of : Bytes → Range
range_of bytes = bytes.0 to bytes.1

abbrev pub ranges : List Bytes → List Range
ranges row = map range_of row

-- The bytes of a row allow the byte of a text beside them.
abbrev pub allowed : Bytes × ℕ → Bool
allowed p = within (range_of p.0) p.1

-- The first byte of a row of the code's may be b.
abbrev pub leads : List Bytes → ℕ → Bool
leads [] b = false
leads (bytes ∷ row) b = within (range_of bytes) b

-- The same, of a row that a table points to.
abbrev pub led_by : ℕ → Bor (List Bytes) → Bool
led_by b row = leads row.now b

-- The row that a byte starts, or no ranges where there is none.
unfoldable pub row_for : List (List Range) → ℕ → List Range
row_for [] b = []
row_for (row ∷ rest) b = cond (within (get_or row 0 trail) b) row (row_for rest b)

-- The bytes of s from one place to another are ASCII.
pub record Ascii (s : List ℕ) (from until : ℕ) : Type 0 where
  pub inside : until ≤ length s
  pub each : (i : ℕ) → from ≤ i → i < until → get_or s i 0 < 0x80

-- Whole sequences stand in s from one place to another: what is good from either place on ends at the same byte.
pub record Passed (s : List ℕ) (from until : ℕ) : Type 0 where
  pub forward : from ≤ until
  pub inside : until ≤ length s
  pub same : from + good_len (drop from s) ≡ until + good_len (drop until s)
