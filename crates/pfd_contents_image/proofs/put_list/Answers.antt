-- `pfd_contents_image::put_list` meets its contract: its three numbers, from the back to the front, are one put.
use Prim.Native.Nat.{ℕ, ◌≤◌, ◌+◌}
use native.Mathlib.Omega.{arith}
use mathlib.Core.Path.{◌≡◌}
use mathlib.Core.List.{List}
use lib.ListN.{length}
use Rattle.octets.specs.Octets.{put}
use Rattle.text_fields.specs.declared.TextList.{TextList}
use Rattle.image.specs.Image.{little_endian_bytes}
use Rattle.image.proofs.Laws.{length_little_endian_bytes_law, last_part, then_number}
use Rattle.pfd_contents_image.specs.PfdContentsImage.{list_image}
use Rattle.pfd_contents_image.proofs.put_list.Goals as goal

stored : (d d1 d2 d3 : List ℕ) (at : ℕ) (l : TextList) → at + 24 ≤ length d
    → d1 ≡ put d (at + 16) (little_endian_bytes 8 l.count)
    → d2 ≡ put d1 (at + 8) (little_endian_bytes 8 l.len)
    → d3 ≡ put d2 at (little_endian_bytes 8 l.place)
    → d3 ≡ put d at (list_image l)
unfolding list_image
stored d d1 d2 d3 at l room q1 q2 q3 =
    let s1 = last_part (at + 24) 8 (at + 16) (little_endian_bytes 8 l.count) room (length_little_endian_bytes_law 8 l.count) (omega arith) q1 in
    let s2 = then_number s1 (at + 8) l.len q2 (omega arith) in
    (then_number s2 at l.place q3 (omega arith)).is

pub returns : goal.returns
returns c =
    stored _ _ _ _ _ _ c.requires c.put_u64.ensures c.put_u64-2.ensures c.put_u64-3.ensures
