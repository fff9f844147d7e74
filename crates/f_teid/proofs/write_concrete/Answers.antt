-- `f_teid::write_concrete` meets its contract: four puts, one behind the other, are one put of the written form.
use Prim.Native.Nat.{ℕ, ◌+◌}
use mathlib.Core.Path.{◌≡◌, ap, ◌∙◌}
use mathlib.Core.Bool.{false}
use mathlib.Core.List.{List, [], ◌∷◌}
use Rattle.std.specs.Prelude.{is_some, IfSome}
use lib.ListN.{length}
use borrow.Author.Rules.{rules}
use Rattle.octets.specs.Octets.{if_set, flag_byte, big_endian_bytes, bytes_if, put}
use Rattle.octets.proofs.Laws.{flags_padded, Puts}
use Rattle.kind.proofs.Cases.{no_room, all_put}
use Rattle.kind.proofs.Endpoint.{endpoint_wire, form_length, form_row}
use Rattle.f_teid.specs.declared.Fteid.{Fteid}
use Rattle.f_teid.specs.Fteid.{meaning, tail, wire}
use Rattle.f_teid.proofs.write_concrete.Goals as goal

-- the first byte, CHID off
abbrev first : Fteid → ℕ
first r = flag_byte (r.v4 ∷ r.v6 ∷ false ∷ false ∷ [])

module _ (r : Fteid) (u4 u6 : ℕ) (ch : r.ch ≡ false) (e4 : u4 ≡ if_set (is_some r.ipv4_address) 4) (e6 : u6 ≡ if_set (is_some r.ipv6_address) 16) (l4 : IfSome r.ipv4_address (λ bs. length bs ≡ 4)) (l6 : IfSome r.ipv6_address (λ bs. length bs ≡ 16)) where
  -- the written form, how long it is, and that it is put piece by piece
  formed : wire (meaning r) ≡ endpoint_wire (first r) 4 r.teid.0 r.ipv4_address r.ipv6_address
  unfolding wire tail meaning
  formed = rw ch

  long : length (wire (meaning r)) ≡ 5 + u4 + u6
  long = ap length formed ∙ form_length (first r) 4 r.teid.0 r.ipv4_address r.ipv6_address u4 u6 e4 e6 l4 l6

  row : (f : ℕ) (d d1 d2 d3 d4 : List ℕ) → f ≡ flag_byte (r.v4 ∷ r.v6 ∷ false ∷ false ∷ false ∷ false ∷ false ∷ false ∷ [])
      → d1 ≡ put d 0 (f ∷ [])
      → d2 ≡ put d1 1 (big_endian_bytes 4 r.teid.0)
      → d3 ≡ put d2 5 (bytes_if r.ipv4_address)
      → d4 ≡ put d3 (5 + u4) (bytes_if r.ipv6_address)
      → Puts d 0 (wire (meaning r)) d4
  row f d d1 d2 d3 d4 g q1 q2 q3 q4 =
      rw formed
      (form_row (first r) 4 r.teid.0 r.ipv4_address r.ipv6_address u4 u6 e4 e6 l4 l6 d d1 d2 d3 d4 (rw (g ∙ flags_padded (r.v4 ∷ r.v6 ∷ false ∷ false ∷ []) 4) at q1) q2 q3 q4)

pub returns-then-out-end6 : goal.returns-then-out-end6
returns-then-out-end6 c =
    let e4 = rw c.is_some.ensures at c.if_set-end4.ensures.value in
    let e6 = rw c.is_some-2.ensures at c.if_set.ensures.value in
    let l4 : IfSome c.args.r.ipv4_address (λ bs. length bs ≡ 4) = search rules in
    let l6 : IfSome c.args.r.ipv6_address (λ bs. length bs ≡ 16) = search rules in
    let both = no_room _ _ _ (long c.args.r _ _ c.requires e4 e6 l4 l6) c.if-out-end6.true in
    record { value = both.0; out_after = both.1 }

pub returns : goal.returns
returns c =
    let r = c.args.r in
    let ch = c.requires in
    let e4 = rw c.is_some.ensures at c.if_set-end4.ensures.value in
    let e6 = rw c.is_some-2.ensures at c.if_set.ensures.value in
    let l4 : IfSome c.args.r.ipv4_address (λ bs. length bs ≡ 4) = search rules in
    let l6 : IfSome c.args.r.ipv6_address (λ bs. length bs ≡ 16) = search rules in
    let both = all_put _ _ _ (long r _ _ ch e4 e6 l4 l6) _ c.if-out-end6.false
    (row r _ _ ch e4 e6 l4 l6 _ _ _ _ _ _ c.flag_byte-flags.ensures c.put_byte.ensures c.put_number.ensures c.put_address.ensures c.put_address-2.ensures) in
    record { value = both.0; out_after = both.1 }
