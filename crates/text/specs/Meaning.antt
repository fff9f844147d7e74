-- What well-formed UTF-8 is, said without a computation. `proofs/Longest.antt` shows that `good_len` is the length of the longest well-formed
-- beginning in this sense, and `proofs/Broken.antt` that `checked` tells how long the bad sequence after it is.
use Rattle.std.specs.Prelude.{ℕ, ◌+◌, ◌≤◌, ◌<◌, List, [], ◌∷◌, ◌++◌, length, get_or, take}
use Rattle.text.specs.Utf8.{Range, rows}

-- The bytes lie in the ranges of a row, one in each.
pub data Sequence : List Range → List ℕ → Type 0 where
  end : Sequence [] []
  byte : {r : Range} {row : List Range} {b : ℕ} {s : List ℕ} → r.low ≤ b → b ≤ r.high → Sequence row s → Sequence (r ∷ row) (b ∷ s)

-- Sequences of the table, one after the other.
pub data WellFormed : List ℕ → Type 0 where
  none : WellFormed []
  more : {a b : List ℕ} (k : ℕ) → k < length rows → Sequence (get_or rows k []) a → WellFormed b → WellFormed (a ++ b)

-- n is the length of the longest well-formed beginning of s.
pub record Longest (s : List ℕ) (n : ℕ) : Type 0 where
  pub within : n ≤ length s
  pub good : WellFormed (take n s)
  pub most : (m : ℕ) → m ≤ length s → WellFormed (take m s) → m ≤ n

-- Some bytes more, or none, make s well formed.
pub record Completable (s : List ℕ) : Type 0 where
  pub rest : List ℕ
  pub whole : WellFormed (s ++ rest)

-- The bad sequence of s, from a place on, has n bytes: s up to its end could be completed, or it is one byte alone; and past its end s could not
-- be completed. (The Unicode Standard calls it a maximal subpart.)
pub record BadSequence (s : List ℕ) (at n : ℕ) : Type 0 where
  pub some : 1 ≤ n
  pub inside : at + n ≤ length s
  pub begun : 2 ≤ n → Completable (take (at + n) s)
  pub most : (m : ℕ) → at + m ≤ length s → Completable (take (at + m) s) → m ≤ n
