-- `ue_ip_address::UeIpAddress::marshal` meets its contract: five puts, one behind the other, are one put of the written form.
use Prim.Native.Nat.{ℕ, ◌+◌, ◌≤◌}
use native.Mathlib.Omega.{arith}
use mathlib.Core.Path.{◌≡◌, refl, sym, ap, ◌∙◌}
use mathlib.Core.Bool.{Bool, false}
use Rattle.std.specs.Prelude.{Option, Some, None, IfSome, is_some}
use mathlib.Core.List.{List, [], ◌∷◌, ◌++◌}
use lib.ListN.{length, take, drop, length-append}
use borrow.Author.Rules.{rules}
use Rattle.answer.specs.declared.Answer.TheVariants.{Done}
use Rattle.answer.specs.Paper.{written}
use Rattle.octets.specs.Octets.{if_set, flag_byte, bytes_if, number_if, put}
use Rattle.octets.proofs.Laws.{flags_padded, length_big_endian_bytes_law, length_bytes_if, length_number_if, put_nil, Puts, ends, then}
use Rattle.kind.proofs.Cases.{no_room, all_put_front}
use Rattle.ue_ip_address.specs.declared.UeIpAddress.{UeIpAddress}
use Rattle.ue_ip_address.specs.UeIpAddress.{meaning, wire}
use Rattle.ue_ip_address.proofs.UeIpAddress.marshal.Goals as goal

-- the widths of a record's fields
record Widths (r : UeIpAddress) (u4 u6 ub up : ℕ) : Type 0 where
  pub ipv4 : length (bytes_if r.ipv4_address) ≡ u4
  pub ipv6 : length (bytes_if r.ipv6_address) ≡ u6
  pub bits : length (number_if 1 r.ipv6_prefix_delegation_bits) ≡ ub
  pub prefix : length (number_if 1 r.ipv6_prefix_length) ≡ up

widths : (r : UeIpAddress) {v4 v6 vb vp : Bool} {u4 u6 ub up : ℕ}
    → IfSome r.ipv4_address (λ bs. length bs ≡ 4)
    → IfSome r.ipv6_address (λ bs. length bs ≡ 16)
    → v4 ≡ is_some r.ipv4_address → u4 ≡ if_set v4 4
    → v6 ≡ is_some r.ipv6_address → u6 ≡ if_set v6 16
    → vb ≡ is_some r.ipv6_prefix_delegation_bits → ub ≡ if_set vb 1
    → vp ≡ is_some r.ipv6_prefix_length → up ≡ if_set vp 1
    → Widths r u4 u6 ub up
widths r l4 l6 s4 e4 s6 e6 sb eb sp ep =
    record {
      ipv4 = length_bytes_if 4 r.ipv4_address l4 ∙ sym (rw s4 at e4);
      ipv6 = length_bytes_if 16 r.ipv6_address l6 ∙ sym (rw s6 at e6);
      bits = length_number_if 1 r.ipv6_prefix_delegation_bits ∙ sym (rw sb at eb);
      prefix = length_number_if 1 r.ipv6_prefix_length ∙ sym (rw sp at ep);
    }

-- a byte that may be absent: only where there is one does its place count
one_byte : (d : List ℕ) (at p : ℕ) (o : Option ℕ) → (length (number_if 1 o) ≡ 1 → p ≡ at) → put d p (number_if 1 o) ≡ put d at (number_if 1 o)
unfolding number_if
one_byte d at p None h = put_nil d p ∙ sym (put_nil d at)
one_byte d at p (Some x) h = ap (λ (n : ℕ). put d n (number_if 1 (Some x))) (h (length_big_endian_bytes_law 1 x))

-- put into the output cut to the written form, however its length is said
cut_put : (d bytes e : List ℕ) (n m : ℕ) → length bytes ≡ n → n ≤ length d → Puts (take m d) 0 bytes e → m ≡ n
    → (record { answer = Done; len = n } ≡ written (length bytes) (length d)) × (e ++ drop m d ≡ put d 0 bytes)
cut_put d bytes e n m long h p q = rw q (all_put_front d bytes n long e h (rw q at p))

module _ (r : UeIpAddress) (u4 u6 ub up : ℕ) (w : Widths r u4 u6 ub up) where
  -- how long the written form is, and that it is put piece by piece
  long : length (wire (meaning r)) ≡ 1 + u4 + u6 + ub + up
  unfolding wire meaning
  long = simp (length-append, w.ipv4, w.ipv6, w.bits, w.prefix) (omega arith)

  abbrev flags : List Bool
  flags = r.v6 ∷ r.v4 ∷ r.source_destination ∷ r.ipv6_prefix_delegation ∷ r.choose_ipv4 ∷ r.choose_ipv6 ∷ r.ipv6_prefix_length_present ∷ []

  row : (f p : ℕ) (d d1 d2 d3 d4 d5 : List ℕ)
      → f ≡ flag_byte (flags ++ (false ∷ []))
      → d1 ≡ put d 0 (f ∷ [])
      → d2 ≡ put d1 1 (bytes_if r.ipv4_address)
      → d3 ≡ put d2 (1 + u4) (bytes_if r.ipv6_address)
      → d4 ≡ put d3 (1 + u4 + u6) (number_if 1 r.ipv6_prefix_delegation_bits)
      → d5 ≡ put d4 p (number_if 1 r.ipv6_prefix_length)
      → (up ≡ 1 → p ≡ 1 + u4 + u6 + ub)
      → Puts d 0 (wire (meaning r)) d5
  unfolding wire meaning
  row f p d d1 d2 d3 d4 d5 g q1 q2 q3 q4 q5 place =
      then (flag_byte flags ∷ []) 1 (rw (g ∙ flags_padded flags 1) at q1) refl
      (then _ (1 + u4) q2 (omega (arith, w.ipv4))
      (then _ (1 + u4 + u6) q3 (omega (arith, w.ipv6))
      (then _ (1 + u4 + u6 + ub) q4 (omega (arith, w.bits))
      (ends (q5 ∙ one_byte d4 (1 + u4 + u6 + ub) p r.ipv6_prefix_length (λ e. place (sym w.prefix ∙ e)))))))

pub returns-then-out-end : goal.returns-then-out-end
returns-then-out-end c =
    let l4 : IfSome c.args.self.ipv4_address (λ bs. length bs ≡ 4) = search rules in
    let l6 : IfSome c.args.self.ipv6_address (λ bs. length bs ≡ 16) = search rules in
    let w = widths c.args.self l4 l6 c.is_some.ensures c.if_set-end4.ensures.value c.is_some-2.ensures c.if_set.ensures.value c.is_some-3.ensures c.if_set-2.ensures.value c.is_some-4.ensures c.if_set-3.ensures.value in
    let both = no_room _ _ _ (long _ _ _ _ _ w) c.if-out-end.true in record { value = both.0; out_after = both.1 }

pub returns : goal.returns
returns c =
    let r = c.args.self in
    let l4 : IfSome c.args.self.ipv4_address (λ bs. length bs ≡ 4) = search rules in
    let l6 : IfSome c.args.self.ipv6_address (λ bs. length bs ≡ 16) = search rules in
    let w = widths c.args.self l4 l6 c.is_some.ensures c.if_set-end4.ensures.value c.is_some-2.ensures c.if_set.ensures.value c.is_some-3.ensures c.if_set-2.ensures.value c.is_some-4.ensures c.if_set-3.ensures.value in
    let bits : c.map.result ≡ c.args.self.ipv6_prefix_delegation_bits = search rules in
    let prefix : c.map-2.result ≡ c.args.self.ipv6_prefix_length = search rules in
    let both = cut_put _ _ _ _ _ (long r _ _ _ _ w) c.if-out-end.false
    (row r _ _ _ _ w _ _ _ _ _ _ _ _ c.flag_byte-flags.ensures c.put_byte.ensures c.put_address.ensures c.put_address-2.ensures
    (rw bits at c.put_number_if.ensures) (rw prefix at c.put_number_if-2.ensures) (λ e. omega (arith, e))) (omega arith) in
    record { value = both.0; out_after = both.1 }
