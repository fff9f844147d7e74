-- `outer_header_creation_image::has_room` meets its contract: no form is longer than the longest.
use Prim.Native.Nat.{ℕ, ◌≤◌}
use native.Mathlib.Omega.{arith}
use mathlib.Core.Path.{◌≡◌}
use mathlib.Core.Bool.{true}
use lib.Dec.{leb}
use borrow.Author.Tests.{le-leb}
use Rattle.outer_header_creation.specs.Steps.{ends_of}
use Rattle.outer_header_creation_image.specs.Steps.{sends_by}
use Rattle.outer_header_creation_image.proofs.Writing.{length_most}
use Rattle.outer_header_creation_image.proofs.has_room.Goals as goal

fits : (f g room : ℕ) → 34 ≤ room → true ≡ leb (ends_of (sends_by f g)).stag room
fits f g room h =
    let most : (ends_of (sends_by f g)).stag ≤ room = omega (arith, length_most (sends_by f g)) in
    rw (le-leb _ _ most)

pub returns-then-room-ge-MAX_LEN : goal.returns-then-room-ge-MAX_LEN
returns-then-room-ge-MAX_LEN c = search fits
