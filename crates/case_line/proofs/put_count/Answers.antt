-- `case_line::put_count` meets its contract: two puts, one behind the other.
use Prim.Native.Nat.{ℕ, ◌+◌, ◌≤◌}
use native.Mathlib.Omega.{arith}
use mathlib.Core.Path.{◌≡◌}
use mathlib.Core.List.{List, [], ◌∷◌, ◌++◌}
use lib.ListN.{length}
use Rattle.octets.specs.Octets.{put}
use Rattle.hex_text.specs.Hex.{decimal}
use Rattle.case_line.proofs.Laws.{two_puts}
use Rattle.case_line.proofs.put_count.Goals as goal

counted : (d d1 d2 : List ℕ) (at len n : ℕ) → at + (length (decimal n) + 1) ≤ length d → d1 ≡ put d at (decimal n) → len ≡ length (decimal n) → d2 ≡ put d1 (at + len) (0x20 ∷ [])
    → d2 ≡ put d at (decimal n ++ (0x20 ∷ []))
counted d d1 d2 at len n h p e q = two_puts d d1 d2 at (at + len) (decimal n) (0x20 ∷ []) p q (omega arith) (omega arith)

pub returns : goal.returns
returns c = search counted
