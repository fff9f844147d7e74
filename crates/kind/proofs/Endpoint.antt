-- F-SEID and an F-TEID without CH are written alike: a first byte, a number of w bytes, and the addresses that are given. No contract cites this file.
use Prim.Native.Nat.{ℕ, ◌+◌, ◌≤◌}
use native.Mathlib.Omega.{arith}
use mathlib.Core.Path.{◌≡◌, refl, ap, ◌∙◌}
use mathlib.Core.Bool.{Bool}
use mathlib.Core.List.{List, [], ◌∷◌, ◌++◌}
use lib.Dec.{lit<}
use lib.ListN.{length, get_or, take, length-append}
use Rattle.std.specs.Prelude.{Option, IfSome, is_some}
use Rattle.octets.specs.Octets.{if_set, Bytes, field, big_endian, big_endian_bytes, bytes_if, address_of, put}
use Rattle.octets.proofs.Laws.{length_field, take_head, field_split, bytes_field, length_big_endian_bytes_law, length_bytes_if, address_written, length_put, before, Puts, ends, then, put_row}

module _ (first w x : ℕ) (a4 a6 : Option (List ℕ)) where
  abbrev pub endpoint_wire : List ℕ
  endpoint_wire = first ∷ (big_endian_bytes w x ++ (bytes_if a4 ++ bytes_if a6))

  -- how long it is, and that it is put piece by piece
  module _ (u4 u6 : ℕ) (e4 : u4 ≡ if_set (is_some a4) 4) (e6 : u6 ≡ if_set (is_some a6) 16) (l4 : IfSome a4 (λ bs. length bs ≡ 4)) (l6 : IfSome a6 (λ bs. length bs ≡ 16)) where
    pub form_length : length endpoint_wire ≡ 1 + w + u4 + u6
    form_length =
        simp (length-append, length_big_endian_bytes_law, length_bytes_if 4 a4 l4, length_bytes_if 16 a6 l6) (omega arith)

    pub form_row : (d d1 d2 d3 d4 : List ℕ)
        → d1 ≡ put d 0 (first ∷ [])
        → d2 ≡ put d1 1 (big_endian_bytes w x)
        → d3 ≡ put d2 (1 + w) (bytes_if a4)
        → d4 ≡ put d3 (1 + w + u4) (bytes_if a6)
        → Puts d 0 endpoint_wire d4
    form_row d d1 d2 d3 d4 q1 q2 q3 q4 =
        then (first ∷ []) 1 q1 refl
        (then _ (1 + w) q2 (omega (arith, length_big_endian_bytes_law w x))
        (then _ (1 + w + u4) q3 (omega (arith, length_bytes_if 4 a4 l4))
        (ends q4)))

    -- the same, the addresses put first, and then what stands before them
    pub form_row_behind : (d d1 d2 d3 d4 : List ℕ)
        → 1 + w + u4 + u6 ≤ length d
        → d1 ≡ put d (1 + w) (bytes_if a4)
        → d2 ≡ put d1 (1 + w + u4) (bytes_if a6)
        → d3 ≡ put d2 0 (first ∷ [])
        → d4 ≡ put d3 1 (big_endian_bytes w x)
        → Puts d 0 endpoint_wire d4
    form_row_behind d d1 d2 d3 d4 room q1 q2 q3 q4 =
        let v4 = length_bytes_if 4 a4 l4 in
        let v6 = length_bytes_if 16 a6 l6 in
        let vx = length_big_endian_bytes_law w x in
        let joined = length-append (bytes_if a4) (bytes_if a6) in
        let addresses : d2 ≡ put d (1 + w) (bytes_if a4 ++ bytes_if a6) = put_row (then _ (1 + w + u4) q1 (omega (arith, v4)) (ends q2)) (omega (arith, v4, v6, joined)) in
        let l : length d2 ≡ length d = ap length addresses ∙ length_put d (1 + w) (bytes_if a4 ++ bytes_if a6) in
        let head : d4 ≡ put d2 0 (first ∷ big_endian_bytes w x) = put_row (then (first ∷ []) 1 q3 refl (ends q4)) (omega (arith, vx)) in
        ends (before d d2 d4 0 (1 + w) (first ∷ big_endian_bytes w x) (bytes_if a4 ++ bytes_if a6) addresses head (omega (arith, vx)) (omega (arith, v4, v6, joined)))

-- what was read of a payload with these two flags is written as it stood
pub form_again : (s : List ℕ) (w : ℕ) (f4 f6 : Bool) → Bytes s → 1 + w + if_set f4 4 + if_set f6 16 ≤ length s
    → endpoint_wire (get_or s 0 0) w (big_endian (field s 1 w)) (address_of 4 (field s (1 + w) (if_set f4 4))) (address_of 16 (field s (1 + w + if_set f4 4) (if_set f6 16)))
    ≡ take (1 + w + if_set f4 4 + if_set f6 16) s
form_again s w f4 f6 b h =
    let u4 = if_set f4 4 in
    let u6 = if_set f6 16 in
    let sum : 1 + w + u4 + u6 ≡ 1 + (w + (u4 + u6)) = omega arith in
    rw (
      sum,
      take_head (w + (u4 + u6)) s (omega arith),
      field_split 1 w (u4 + u6) s,
      field_split (1 + w) u4 u6 s,
      bytes_field 1 w s b (omega arith),
      address_written f4 (field s (1 + w) u4) 4 (lit< tt) (length_field (1 + w) u4 s (omega arith)),
      address_written f6 (field s (1 + w + u4) u6) 16 (lit< tt) (length_field (1 + w + u4) u6 s (omega arith)),
    )
