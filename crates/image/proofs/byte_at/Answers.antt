use Prim.Native.Nat.{ℕ, ◌≤◌}
use mathlib.Core.Path.{◌≡◌, sym}
use mathlib.Core.List.{List}
use lib.ListN.{length, get_or, get_or-eq_default}
use Rattle.image.proofs.byte_at.Goals as goal

past : (s : List ℕ) (at : ℕ) → length s ≤ at → 0 ≡ get_or s at 0
past s at h = sym (get_or-eq_default s 0 h)

pub returns-then-image-at : goal.returns-then-image-at
returns-then-image-at c = search past
