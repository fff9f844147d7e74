-- `node_id_image::put_fields` meets its contract: its puts, from the back to the front, are one put of the image.
use Prim.Native.Nat.{ℕ, ◌≤◌}
use native.Mathlib.Omega.{arith}
use mathlib.Core.Path.{◌≡◌, refl, sym}
use mathlib.Core.List.{List, [], ◌∷◌, ◌++◌}
use lib.ListN.{length, length-append}
use Rattle.answer.specs.declared.Answer.TheVariants.{Done}
use Rattle.octets.specs.Octets.{put}
use Rattle.octets.proofs.Laws.{put_not}
use Rattle.node_id_image.specs.declared.Fields.{Fields}
use Rattle.image.specs.Image.{little_endian_bytes, head}
use Rattle.image.proofs.Laws.{length_little_endian_bytes_law, length_head, last_part, then_part, then_number, then_byte, then_head}
use Rattle.node_id_image.specs.NodeIdImage.{type_at, place_at, len_at, ipv4_at, ipv6_at, size, bytes_of}
use borrow.Author.Rules.{rules}
use Rattle.node_id_image.proofs.put_fields.Goals as goal

stored : (d d1 d2 d3 d4 d5 d6 : List ℕ) (n : ℕ) (r : Fields) → size ≤ length d
    → length r.ipv4_address ≡ 4
    → length r.ipv6_address ≡ 16
    → d1 ≡ put d ipv6_at r.ipv6_address
    → d2 ≡ put d1 ipv4_at r.ipv4_address
    → d3 ≡ put d2 len_at (little_endian_bytes 8 r.name.len)
    → d4 ≡ put d3 place_at (little_endian_bytes 8 r.name.place)
    → d5 ≡ put d4 type_at (r.type_byte ∷ [])
    → d6 ≡ put d5 0 (head Done n)
    → d6 ≡ put d 0 (head Done n ++ bytes_of r)
stored d d1 d2 d3 d4 d5 d6 n r room l4 l6 q1 q2 q3 q4 q5 q6 =
    let s1 = last_part size 16 ipv6_at r.ipv6_address room l6 refl q1 in
    let s2 = then_part s1 4 ipv4_at r.ipv4_address l4 q2 refl in
    let s3 = then_number s2 len_at r.name.len q3 refl in
    let s4 = then_number s3 place_at r.name.place q4 refl in
    let s5 = then_byte s4 type_at r.type_byte q5 refl in
    then_head s5 Done n q6 refl

-- how long the image is
long : (n : ℕ) (r : Fields) → length r.ipv4_address ≡ 4 → length r.ipv6_address ≡ 16 → length (head Done n ++ bytes_of r) ≡ size
long n r l4 l6 = simp (length-append, length_head, length_little_endian_bytes_law, l4, l6) (omega arith)

pub returns-then-out-lt-SIZE : goal.returns-then-out-lt-SIZE
returns-then-out-lt-SIZE c =
    let l4 : length c.args.fields.ipv4_address ≡ 4 = search rules in
    let l6 : length c.args.fields.ipv6_address ≡ 16 = search rules in
    let l = long c.args.used c.args.fields l4 l6 in
    record { value = refl; out_after = sym (put_not _ _ _ (omega arith)) }

pub returns : goal.returns
returns c =
    let l4 : length c.args.fields.ipv4_address ≡ 4 = search rules in
    let l6 : length c.args.fields.ipv6_address ≡ 16 = search rules in
    record {
      value = refl;
      out_after = stored _ _ _ _ _ _ _ _ _ c.if-out-lt-SIZE.false l4 l6 c.put_bytes.ensures c.put_bytes-2.ensures c.put_u64.ensures c.put_u64-2.ensures c.put_byte.ensures c.put_head.ensures;
    }
