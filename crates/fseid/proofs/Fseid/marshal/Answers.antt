-- `fseid::Fseid::marshal` meets its contract: four puts, the addresses first, are one put of the written form.
use Prim.Native.Nat.{ℕ, ◌+◌, ◌≤◌}
use mathlib.Core.Path.{◌≡◌, ◌∙◌}
use mathlib.Core.Bool.{false}
use mathlib.Core.List.{List, [], ◌∷◌}
use Rattle.std.specs.Prelude.{is_some, IfSome}
use lib.ListN.{length}
use borrow.Author.Rules.{rules}
use Rattle.octets.specs.Octets.{if_set, flag_byte, big_endian_bytes, bytes_if, put}
use Rattle.octets.proofs.Laws.{flags_padded, Puts}
use Rattle.kind.proofs.Cases.{no_room, all_put}
use Rattle.kind.proofs.Endpoint.{form_length, form_row_behind}
use Rattle.fseid.specs.declared.Fseid.{Fseid}
use Rattle.fseid.specs.Fseid.{meaning, wire}
use Rattle.fseid.proofs.Fseid.marshal.Goals as goal

module _ (r : Fseid) (u4 u6 : ℕ) (e4 : u4 ≡ if_set (is_some r.ipv4_address) 4) (e6 : u6 ≡ if_set (is_some r.ipv6_address) 16) (l4 : IfSome r.ipv4_address (λ bs. length bs ≡ 4)) (l6 : IfSome r.ipv6_address (λ bs. length bs ≡ 16)) where
  long : length (wire (meaning r)) ≡ 9 + u4 + u6
  unfolding wire meaning
  long = form_length (flag_byte (r.v6 ∷ r.v4 ∷ [])) 8 r.seid.0 r.ipv4_address r.ipv6_address u4 u6 e4 e6 l4 l6

  row : (f : ℕ) (d d1 d2 d3 d4 : List ℕ) → f ≡ flag_byte (r.v6 ∷ r.v4 ∷ false ∷ false ∷ false ∷ false ∷ false ∷ false ∷ [])
      → 9 + u4 + u6 ≤ length d
      → d1 ≡ put d 9 (bytes_if r.ipv4_address)
      → d2 ≡ put d1 (9 + u4) (bytes_if r.ipv6_address)
      → d3 ≡ put d2 0 (f ∷ [])
      → d4 ≡ put d3 1 (big_endian_bytes 8 r.seid.0)
      → Puts d 0 (wire (meaning r)) d4
  unfolding wire meaning
  row f d d1 d2 d3 d4 g room q1 q2 q3 q4 =
      form_row_behind (flag_byte (r.v6 ∷ r.v4 ∷ [])) 8 r.seid.0 r.ipv4_address r.ipv6_address u4 u6 e4 e6 l4 l6 d d1 d2 d3 d4 room q1 q2 (rw (g ∙ flags_padded (r.v6 ∷ r.v4 ∷ []) 6) at q3) q4

pub returns-then-out-end6 : goal.returns-then-out-end6
returns-then-out-end6 c =
    let e4 = rw c.is_some.ensures at c.if_set-end4.ensures.value in
    let e6 = rw c.is_some-2.ensures at c.if_set.ensures.value in
    let l4 : IfSome c.args.self.ipv4_address (λ bs. length bs ≡ 4) = search rules in
    let l6 : IfSome c.args.self.ipv6_address (λ bs. length bs ≡ 16) = search rules in
    let both = no_room _ _ _ (long c.args.self _ _ e4 e6 l4 l6) c.if-out-end6.true in
    record { value = both.0; out_after = both.1 }

pub returns : goal.returns
returns c =
    let r = c.args.self in
    let e4 = rw c.is_some.ensures at c.if_set-end4.ensures.value in
    let e6 = rw c.is_some-2.ensures at c.if_set.ensures.value in
    let l4 : IfSome c.args.self.ipv4_address (λ bs. length bs ≡ 4) = search rules in
    let l6 : IfSome c.args.self.ipv6_address (λ bs. length bs ≡ 16) = search rules in
    let both = all_put _ _ _ (long r _ _ e4 e6 l4 l6) _ c.if-out-end6.false
    (row r _ _ e4 e6 l4 l6 _ _ _ _ _ _ c.flag_byte-flags.ensures c.if-out-end6.false c.put_address.ensures c.put_address-2.ensures c.put_byte.ensures c.put_number.ensures) in
    record { value = both.0; out_after = both.1 }
