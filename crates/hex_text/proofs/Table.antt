-- A table's rule, proved at all of its entries at once. No contract cites this file.
use mathlib.Core.Path.{◌≡◌, ◌∙◌, ap, sym}
use mathlib.Core.List.{List, [], ◌∷◌}
use Prim.Native.Nat.{ℕ, zero, suc, ◌+◌, ◌<◌}
use native.Mathlib.Nat.{add-zero, zero-add, add-suc, suc-add, le_of_suc-le-suc, not-suc-le-zero}
use lib.ListN.{get_or}

-- what f says of n places, counted from i
abbrev pub tabled : (ℕ → ℕ) → ℕ → ℕ → List ℕ
tabled f i zero = []
tabled f i (suc n) = f i ∷ tabled f (suc i) n

from : (f : ℕ → ℕ) (n i k : ℕ) → k < n → get_or (tabled f i n) k 0 ≡ f (i + k)
from f zero i k h = absurd (not-suc-le-zero h)
from f (suc n) i zero h = ap f (sym (add-zero i))
from f (suc n) i (suc k) h = from f n (suc i) k (le_of_suc-le-suc h) ∙ ap f (suc-add i k ∙ sym (add-suc i k))

-- The entry of such a table at a place. At a constant table antt computes what f says of each place and compares it with
-- the entry: that is the test.
pub entry : (f : ℕ → ℕ) (n k : ℕ) → k < n → get_or (tabled f 0 n) k 0 ≡ f k
entry f n k h = from f n 0 k h ∙ ap f (zero-add k)
