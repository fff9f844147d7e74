-- `outer_header_creation_image::put_number_sent` meets its contract: by whether the number is sent.
use Prim.Native.Nat.{ℕ}
use mathlib.Core.Path.{◌≡◌, sym}
use mathlib.Core.Bool.{Bool, true, false}
use mathlib.Core.List.{List}
use Rattle.std.specs.Bool.{then_some}
use Rattle.octets.specs.Octets.{big_endian_bytes, number_if, put}
use Rattle.octets.proofs.Laws.{put_nil}
use Rattle.outer_header_creation_image.proofs.Writing.{moves, stays}
use Rattle.outer_header_creation_image.proofs.put_number_sent.Goals as goal

module _ (at w : ℕ) (sent : Bool) (d : List ℕ) (x : ℕ) where
  there : (e : List ℕ) → sent ≡ true → e ≡ put d at (big_endian_bytes w x) → e ≡ put d at (number_if w (then_some sent x))
  unfolding number_if
  there e h q = rw h q

  absent : sent ≡ false → d ≡ put d at (number_if w (then_some sent x))
  unfolding number_if
  absent h = rw h (sym (put_nil d at))

pub returns-then-sent : goal.returns-then-sent
returns-then-sent c = record { value = search moves; out_after = search there }

pub returns : goal.returns
returns c = record { value = search stays; out_after = search absent }
