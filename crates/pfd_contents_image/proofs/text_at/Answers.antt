-- `pfd_contents_image::text_at` meets its contract: each number from its place, where the text is given.
use Prim.Native.Nat.{ℕ, ◌+◌}
use mathlib.Core.Path.{◌≡◌, refl, ◌∙◌}
use mathlib.Core.Bool.{Bool, true, false}
use mathlib.Core.List.{List}
use Rattle.std.specs.Bool.{then_some}
use Rattle.image.specs.Image.{number_at}
use Rattle.pfd_contents_image.specs.PfdContentsImage.{text_at}
use Rattle.pfd_contents_image.proofs.text_at.Goals as goal

found : (m : List ℕ) (at : ℕ) (g : Bool) (p n : ℕ)
    → p ≡ number_at m at
    → n ≡ number_at m (at + 8)
    → then_some g (record { place = p; len = n }) ≡ text_at m at g
unfolding text_at
found m at true p n q0 q1 = rw (q1, q0)
found m at false p n q0 q1 = refl

pub returns : goal.returns
returns c =
    c.then_some.ensures ∙ found _ _ _ _ _ c.number_at-place.ensures c.number_at-len.ensures
