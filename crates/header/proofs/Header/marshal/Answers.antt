-- `header::Header::marshal` meets its contract: six puts, one behind the other, are one put of the written form.
use Prim.Native.Nat.{ℕ, ◌+◌}
use native.Mathlib.Omega.{arith}
use mathlib.Core.Path.{◌≡◌, refl}
use mathlib.Core.Bool.{Bool, true, false}
use mathlib.Core.List.{List, [], ◌∷◌}
use lib.ListN.{length, length-append}
use Rattle.std.specs.Prelude.{Some, None}
use Rattle.std.specs.Bool.{then_some}
use Rattle.octets.specs.Octets.{pick, bit, if_set, flag_byte, big_endian_bytes, number_if, presence, put}
use Rattle.octets.proofs.Laws.{length_big_endian_bytes_law, number_length, Puts, ends, then}
use Rattle.kind.proofs.Cases.{no_room, all_put}
use Rattle.header.specs.declared.Header.{Header}
use Rattle.header.specs.Header.{wire}
use Rattle.header.proofs.Header.marshal.Goals as goal

module _ (h : Header) (u : ℕ) (e : u ≡ if_set h.has_seid 8) where
  long : length (wire h) ≡ 8 + u
  unfolding wire
  long = simp (length-append, length_big_endian_bytes_law, number_length h.has_seid 8 h.seid.0) (omega arith)

  sent : then_some h.has_seid h.seid.0 ≡ presence h.has_seid h.seid.0
  unfolding presence
  sent = go h.has_seid
    where
      go : (g : Bool) → then_some g h.seid.0 ≡ pick g (Some h.seid.0) None
      go true = refl
      go false = refl

  row : (f : ℕ) (v0 v1 v2 : Bool) (d d1 d2 d3 d4 d5 d6 : List ℕ)
      → v0 ≡ bit 0 h.version
      → v1 ≡ bit 1 h.version
      → v2 ≡ bit 2 h.version
      → f ≡ flag_byte (h.has_seid ∷ h.has_mp ∷ h.has_fo ∷ false ∷ false ∷ v0 ∷ v1 ∷ v2 ∷ [])
      → d1 ≡ put d 0 (f ∷ [])
      → d2 ≡ put d1 1 (h.message_type ∷ [])
      → d3 ≡ put d2 2 (big_endian_bytes 2 h.length)
      → d4 ≡ put d3 4 (number_if 8 (then_some h.has_seid h.seid.0))
      → d5 ≡ put d4 (4 + u) (big_endian_bytes 3 h.sequence_number.0)
      → d6 ≡ put d5 (4 + u + 3) (h.message_priority ∷ [])
      → Puts d 0 (wire h) d6
  unfolding wire
  row f v0 v1 v2 d d1 d2 d3 d4 d5 d6 b0 b1 b2 g q1 q2 q3 q4 q5 q6 =
      then (_ ∷ []) 1 (rw (g, b0, b1, b2) at q1) refl
      (then (h.message_type ∷ []) 2 q2 refl
      (then _ 4 q3 (omega (arith, length_big_endian_bytes_law 2 h.length))
      (then (number_if 8 (presence h.has_seid h.seid.0)) (4 + u) (rw sent at q4) (omega (arith, number_length h.has_seid 8 h.seid.0))
      (then _ (4 + u + 3) q5 (omega (arith, length_big_endian_bytes_law 3 h.sequence_number.0))
      (ends q6)))))

pub returns-then-out-end : goal.returns-then-out-end
returns-then-out-end c = let all_of_it = no_room _ _ _ (long _ _ c.if_set-seid_len.ensures.value) c.if-out-end.true in record { value = all_of_it.0; out_after = all_of_it.1 }

pub returns : goal.returns
returns c =
    let h = c.args.self in
    let e = c.if_set-seid_len.ensures.value in let all_of_it = all_put _ _ _ (long h _ e) _ c.if-out-end.false
    (row h _ e _ _ _ _ _ _ _ _ _ _ _ c.bit-v0.ensures c.bit-v1.ensures c.bit-v2.ensures c.flag_byte-flags.ensures c.put_byte.ensures c.put_byte-2.ensures c.put_number.ensures (rw c.then_some.ensures at c.put_number_if.ensures) c.put_number-2.ensures c.put_byte-3.ensures) in record { value = all_of_it.0; out_after = all_of_it.1 }
