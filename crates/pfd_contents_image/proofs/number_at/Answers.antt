-- `pfd_contents_image::number_at` meets its contract: the eight bytes have the number that stands at their place.
use Prim.Native.Nat.{ℕ, ◌+◌, ◌-◌}
use mathlib.Core.Path.{◌≡◌, ◌∙◌}
use mathlib.Core.List.{List}
use native.Mathlib.Nat.{add-sub_cancel_left}
use native.Mathlib.Omega.{arith}
use lib.ListN.{take, drop}
use lib.Seq.{take-take}
use Rattle.image.specs.Image.{number_at}
use Rattle.pfd_contents_image.proofs.number_at.Goals as goal

same : (m : List ℕ) (at : ℕ) → number_at (take (at + 8 - at) (drop at m)) 0 ≡ number_at m at
same m at = rw (add-sub_cancel_left at 8, take-take 8 8 (drop at m) (omega arith))

pub returns : goal.returns
returns c =
    let a = c.args in
    c.u64_at.ensures ∙ same a.image.now a.at
