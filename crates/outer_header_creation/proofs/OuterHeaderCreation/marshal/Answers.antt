-- `outer_header_creation::OuterHeaderCreation::marshal` meets its contract: eight puts in a row are one put of the written form.
use Prim.Native.Nat.{ℕ}
use native.Mathlib.Omega.{arith}
use mathlib.Core.Path.{◌≡◌, refl, sym, ap, ◌∙◌}
use mathlib.Core.List.{List, [], ◌∷◌, flatten}
use Rattle.std.specs.Prelude.{Option, None, Some, IfSome, is_some, option_map}
use lib.ListN.{length, length-append}
use Rattle.types.specs.declared.Teid.{Teid}
use Rattle.octets.specs.Octets.{if_set, bytes_if, number_if, put}
use Rattle.octets.proofs.Laws.{length_number_if, length_bytes_if, put_nil, Puts, ends, then}
use Rattle.kind.proofs.Cases.{no_room, all_put}
use Rattle.outer_header_creation.specs.declared.FieldEnds.{FieldEnds}
use Rattle.outer_header_creation.specs.declared.OuterHeaderCreation.{OuterHeaderCreation}
use Rattle.outer_header_creation.specs.OuterHeaderCreation.{byte_of, asked, meaning, wire}
use Rattle.outer_header_creation.specs.Steps.{given, sent, ends_of}
use Rattle.outer_header_creation.proofs.Laws.{sent_given, sent_anyway, teid_anyway}
use Rattle.std.proofs.Common.{rules}
use Rattle.outer_header_creation.proofs.OuterHeaderCreation.marshal.Goals as goal

-- the eight pieces of what is written of a record
module _ (w : OuterHeaderCreation) where
  abbrev pieces : List (List ℕ)
  pieces =
      (byte_of w.description ∷ [])
      ∷ (0 ∷ [])
      ∷ number_if 4 (option_map (λ t. t.0) w.teid)
      ∷ bytes_if w.ipv4_address
      ∷ bytes_if w.ipv6_address
      ∷ number_if 2 w.port_number
      ∷ number_if 3 w.ctag
      ∷ number_if 3 w.stag
      ∷ []

  whole : (r : OuterHeaderCreation) → w ≡ sent r → flatten pieces ≡ wire (meaning r)
  unfolding wire meaning flatten
  whole r q =
      let a = asked r.description in
      rw (
        q,
        teid_anyway a.teid r.teid,
        sent_anyway 4 a.teid (option_map (λ t. t.0) r.teid),
        sent_given bytes_if (unfold bytes_if in refl) a.ipv4 r.ipv4_address,
        sent_given bytes_if (unfold bytes_if in refl) a.ipv6 r.ipv6_address,
        sent_anyway 2 a.port r.port_number,
        sent_given (number_if 3) (unfold number_if in refl) a.ctag r.ctag,
        sent_given (number_if 3) (unfold number_if in refl) a.stag r.stag,
      )

  module _ (e : FieldEnds) (eq : e ≡ ends_of (given w)) (l4 : IfSome w.ipv4_address (λ bs. length bs ≡ 4)) (l6 : IfSome w.ipv6_address (λ bs. length bs ≡ 16)) where
    teid_length : length (number_if 4 (option_map (λ t. t.0) w.teid)) ≡ if_set (is_some w.teid) 4
    teid_length = length_number_if 4 (option_map (λ t. t.0) w.teid) ∙ ap (λ b. if_set b 4) (same w.teid)
      where
        same : (o : Option Teid) → is_some (option_map {U = ℕ} (λ t. t.0) o) ≡ is_some o
        same (Some t) = refl
        same None = refl

    count : length (flatten pieces) ≡ e.stag
    unfolding ends_of flatten
    count =
        simp (
          length-append,
          teid_length,
          length_bytes_if 4 w.ipv4_address l4,
          length_bytes_if 16 w.ipv6_address l6,
          length_number_if 2 w.port_number,
          length_number_if 3 w.ctag,
          length_number_if 3 w.stag,
        )
        (omega (arith, ap (λ (x : FieldEnds). x.stag) eq))

    -- the puts, each behind the one before
    row : (b : ℕ) (teid : Option ℕ) (d d1 d2 d3 d4 d5 d6 d7 d8 : List ℕ)
        → b ≡ byte_of w.description
        → teid ≡ option_map (λ t. t.0) w.teid
        → d1 ≡ put d 0 (b ∷ [])
        → d2 ≡ put d1 1 (0 ∷ [])
        → d3 ≡ put d2 2 (number_if 4 teid)
        → d4 ≡ put d3 e.teid (bytes_if w.ipv4_address)
        → d5 ≡ put d4 e.ipv4 (bytes_if w.ipv6_address)
        → d6 ≡ put d5 e.ipv6 (number_if 2 w.port_number)
        → d7 ≡ put d6 e.port (number_if 3 w.ctag)
        → d8 ≡ put d7 e.ctag (number_if 3 w.stag)
        → Puts d 0 (flatten pieces) d8
    unfolding ends_of flatten
    row b teid d d1 d2 d3 d4 d5 d6 d7 d8 q t q1 q2 q3 q4 q5 q6 q7 q8 =
        let e6 = ap (λ (x : FieldEnds). x.teid) eq in
        let e1 = ap (λ (x : FieldEnds). x.ipv4) eq in
        let e2 = ap (λ (x : FieldEnds). x.ipv6) eq in
        let e7 = ap (λ (x : FieldEnds). x.port) eq in
        let e8 = ap (λ (x : FieldEnds). x.ctag) eq in
        let e9 = ap (λ (x : FieldEnds). x.stag) eq in
        then _ 1 (rw q at q1) refl
        (then _ 2 q2 refl
        (then _ e.teid (rw t at q3) (omega (arith, teid_length))
        (then _ e.ipv4 q4 (omega (arith, length_bytes_if 4 w.ipv4_address l4))
        (then _ e.ipv6 q5 (omega (arith, length_bytes_if 16 w.ipv6_address l6))
        (then _ e.port q6 (omega (arith, length_number_if 2 w.port_number))
        (then _ e.ctag q7 (omega (arith, length_number_if 3 w.ctag))
        (then _ e.stag q8 (omega (arith, length_number_if 3 w.stag))
        (ends (sym (put_nil d8 e.stag))))))))))

    -- how long the written form is, and that it is put so
    module _ (r : OuterHeaderCreation) (q : w ≡ sent r) where
      long : length (wire (meaning r)) ≡ e.stag
      long = ap length (sym (whole r q)) ∙ count

      put_so : (d d' : List ℕ) → Puts d 0 (flatten pieces) d' → Puts d 0 (wire (meaning r)) d'
      put_so d d' p = rw (whole r q) at p

pub returns-then-out-len : goal.returns-then-out-len
returns-then-out-len c =
    let w = c.sent-sent.result in
    let l4 : IfSome w.ipv4_address (λ bs. length bs ≡ 4) = search rules in
    let l6 : IfSome w.ipv6_address (λ bs. length bs ≡ 16) = search rules in
    let e = rw c.given.ensures at c.ends-ends.ensures.value in
    let both = no_room c.args.out.now _ _ (long w _ e l4 l6 _ c.sent-sent.ensures) c.if-out-len.true in
    record { value = both.0; out_after = both.1 }

pub returns : goal.returns
returns c =
    let w = c.sent-sent.result in
    let q = c.sent-sent.ensures in
    let l4 : IfSome w.ipv4_address (λ bs. length bs ≡ 4) = search rules in
    let l6 : IfSome w.ipv6_address (λ bs. length bs ≡ 16) = search rules in
    let e = rw c.given.ensures at c.ends-ends.ensures.value in
    let teid : c.map.result ≡ option_map (λ t. t.0) w.teid = search rules in
    let port : c.map-2.result ≡ w.port_number = search rules in
    let ctag : c.map-3.result ≡ w.ctag = search rules in
    let stag : c.map-4.result ≡ w.stag = search rules in
    let all = row w _ e l4 l6 _ _ _ _ _ _ _ _ _ _ _ c.byte.ensures teid c.put_byte.ensures c.put_byte-2.ensures c.put_number_if.ensures c.put_address.ensures c.put_address-2.ensures (rw port at c.put_number_if-2.ensures) (rw ctag at c.put_number_if-3.ensures) (rw stag at c.put_number_if-4.ensures) in
    let both = all_put c.args.out.now _ _ (long w _ e l4 l6 _ q) _ c.if-out-len.false (put_so w _ e l4 l6 _ q _ _ all) in
    record { value = both.0; out_after = both.1 }
