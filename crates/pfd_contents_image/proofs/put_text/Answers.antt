-- `pfd_contents_image::put_text` meets its contract: its two numbers, from the back to the front, are one put.
use Prim.Native.Nat.{ℕ, ◌≤◌, ◌+◌}
use native.Mathlib.Omega.{arith}
use mathlib.Core.Path.{◌≡◌}
use mathlib.Core.List.{List}
use lib.ListN.{length}
use Rattle.octets.specs.Octets.{put}
use Rattle.std.specs.Prelude.{Option}
use Rattle.texts.specs.declared.Text.{Text}
use Rattle.image.specs.Image.{little_endian_bytes}
use Rattle.image.proofs.Laws.{length_little_endian_bytes_law, last_part, then_number}
use Rattle.pfd_contents_image.specs.PfdContentsImage.{shown, text_image}
use Rattle.pfd_contents_image.proofs.put_text.Goals as goal

stored : (d d1 d2 : List ℕ) (at : ℕ) (t : Option Text) (x : Text) → at + 16 ≤ length d
    → x ≡ shown t
    → d1 ≡ put d (at + 8) (little_endian_bytes 8 x.len)
    → d2 ≡ put d1 at (little_endian_bytes 8 x.place)
    → d2 ≡ put d at (text_image t)
unfolding text_image
stored d d1 d2 at t x room e q1 q2 =
    let s1 = last_part (at + 16) 8 (at + 8) (little_endian_bytes 8 x.len) room (length_little_endian_bytes_law 8 x.len) (omega arith) q1 in
    rw e at (then_number s1 at x.place q2 (omega arith)).is

pub returns : goal.returns
returns c =
    stored _ _ _ _ _ _ c.requires c.unwrap_or-shown.ensures c.put_u64.ensures c.put_u64-2.ensures
