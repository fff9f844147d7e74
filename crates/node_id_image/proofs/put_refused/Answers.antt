-- `node_id_image::put_refused` meets its contract: its puts, from the back to the front, are one put of the image.
use Prim.Native.Nat.{ℕ, ◌+◌, ◌≤◌}
use native.Mathlib.Omega.{arith}
use mathlib.Core.Path.{◌≡◌, refl, sym}
use mathlib.Core.List.{List}
use lib.ListN.{length, replicate, length-append}
use Rattle.answer.specs.declared.Answer.{Answer}
use Rattle.octets.specs.Octets.{put}
use Rattle.octets.proofs.Laws.{put_not}
use Rattle.image.specs.Image.{little_endian_bytes, head}
use Rattle.image.proofs.Laws.{length_little_endian_bytes_law, length_head, last_part, then_number, then_head}
use Rattle.node_id.specs.NodeId.{refused}
use Rattle.node_id_image.specs.NodeIdImage.{type_at, size, record_image, image_of}
use Rattle.node_id_image.proofs.put_refused.Goals as goal

stored : (d d1 d2 d3 : List ℕ) (a : Answer) → size ≤ length d
    → d1 ≡ put d (type_at + 8) (replicate 29 0)
    → d2 ≡ put d1 type_at (little_endian_bytes 8 2)
    → d3 ≡ put d2 0 (head a 0)
    → d3 ≡ put d 0 (image_of (refused a))
unfolding refused record_image little_endian_bytes
stored d d1 d2 d3 a room q1 q2 q3 =
    let s1 = last_part size 29 (type_at + 8) (replicate 29 0) room refl refl q1 in
    let s2 = then_number s1 type_at 2 q2 refl in
    then_head s2 a 0 q3 refl

-- how long the image is
long : (a : Answer) → length (image_of (refused a)) ≡ size
unfolding refused record_image
long a = simp (length-append, length_head, length_little_endian_bytes_law) (omega arith)

pub returns-then-out-lt-SIZE : goal.returns-then-out-lt-SIZE
returns-then-out-lt-SIZE c =
    let l = long c.args.answer in
    record { value = c.number.ensures; out_after = sym (put_not _ _ _ (omega arith)) }

pub returns : goal.returns
returns c =
    record { value = c.put_report.ensures.value; out_after = stored _ _ _ _ _ c.if-out-lt-SIZE.false c.put_zeros.ensures c.put_u64.ensures c.put_report.ensures.out_after }
