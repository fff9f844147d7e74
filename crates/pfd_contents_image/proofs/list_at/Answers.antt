-- `pfd_contents_image::list_at` meets its contract: each number from its place.
use Prim.Native.Nat.{ℕ, ◌+◌}
use mathlib.Core.Path.{◌≡◌}
use mathlib.Core.List.{List}
use Rattle.image.specs.Image.{number_at}
use Rattle.pfd_contents_image.specs.PfdContentsImage.{list_at}
use Rattle.pfd_contents_image.proofs.list_at.Goals as goal

found : (m : List ℕ) (at p n k : ℕ)
    → p ≡ number_at m at
    → n ≡ number_at m (at + 8)
    → k ≡ number_at m (at + 16)
    → record { place = p; len = n; count = k } ≡ list_at m at
unfolding list_at
found m at p n k q0 q1 q2 = rw (q2, q1, q0)

pub returns : goal.returns
returns c =
    found _ _ _ _ _ c.number_at-place.ensures c.number_at-len.ensures c.number_at-count.ensures
