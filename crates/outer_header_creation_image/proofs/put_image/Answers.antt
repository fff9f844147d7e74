-- `outer_header_creation_image::put_image` meets its contract: its puts, from the back to the front, are one put of the image.
use Prim.Native.Nat.{ℕ, ◌≤◌}
use native.Mathlib.Omega.{arith}
use mathlib.Core.Path.{◌≡◌, refl, sym, ap, ◌∙◌}
use mathlib.Core.Bool.{false}
use mathlib.Core.List.{List, [], ◌∷◌, ◌++◌}
use lib.ListN.{length, length-append}
use Rattle.answer.specs.declared.Answer.TheVariants.{Done}
use Rattle.octets.specs.Octets.{if_set, flag_byte, put}
use Rattle.octets.proofs.Laws.{length_put, put_not}
use Rattle.outer_header_creation.specs.declared.OuterHeaderCreation.{OuterHeaderCreation}
use Rattle.outer_header_creation.specs.OuterHeaderCreation.{byte_of}
use Rattle.image.specs.Image.{head, little_endian_bytes, address_bytes}
use Rattle.std.specs.Prelude.{IfSome, is_some, unwrap_or}
use Rattle.types.specs.declared.Teid.{Teid}
use Rattle.image.proofs.Laws.{last_part, length_address_bytes, length_head, length_little_endian_bytes_law, then_byte, then_part, then_head, then_number}
use Rattle.outer_header_creation_image.specs.OuterHeaderCreationImage.{flags_at, given_at, teid_at, port_at, ctag_at, stag_at, ipv4_at, ipv6_at, size, record_image}
use borrow.Author.Rules.{rules}
use Rattle.outer_header_creation_image.proofs.put_image.Goals as goal

stored : (d d1 d2 d3 d4 d5 d6 d7 d8 d9 : List ℕ) (n : ℕ) (r : OuterHeaderCreation) (g f stag ctag port : ℕ) (teid : Teid) → size ≤ length d
    → f ≡ byte_of r.description
    → IfSome r.ipv4_address (λ bs. length bs ≡ 4)
    → IfSome r.ipv6_address (λ bs. length bs ≡ 16)
    → stag ≡ unwrap_or r.stag 0
    → ctag ≡ unwrap_or r.ctag 0
    → port ≡ unwrap_or r.port_number 0
    → teid ≡ unwrap_or r.teid (record { 0 = 0 })
    → g ≡ flag_byte (is_some r.ipv4_address ∷ is_some r.ipv6_address ∷ is_some r.teid ∷ is_some r.port_number ∷ is_some r.ctag ∷ is_some r.stag ∷ false ∷ false ∷ [])
    → d1 ≡ put d ipv6_at (address_bytes 16 r.ipv6_address)
    → d2 ≡ put d1 ipv4_at (address_bytes 4 r.ipv4_address)
    → d3 ≡ put d2 stag_at (little_endian_bytes 8 stag)
    → d4 ≡ put d3 ctag_at (little_endian_bytes 8 ctag)
    → d5 ≡ put d4 port_at (little_endian_bytes 8 port)
    → d6 ≡ put d5 teid_at (little_endian_bytes 8 teid.0)
    → d7 ≡ put d6 given_at (g ∷ [])
    → d8 ≡ put d7 flags_at (f ∷ [])
    → d9 ≡ put d8 0 (head Done n)
    → d9 ≡ put d 0 (head Done n ++ record_image r)
unfolding record_image flag_byte if_set
stored d d1 d2 d3 d4 d5 d6 d7 d8 d9 n r g f stag ctag port teid room ef l4 l6 es ec ep et eg q1 q2 q3 q4 q5 q6 q7 q8 q9 =
    let s1 = last_part size 16 ipv6_at (address_bytes 16 r.ipv6_address) room (length_address_bytes 16 r.ipv6_address l6) refl q1 in
    let s2 = then_part s1 4 ipv4_at (address_bytes 4 r.ipv4_address) (length_address_bytes 4 r.ipv4_address l4) q2 refl in
    let s3 = then_number s2 stag_at stag q3 refl in
    let s4 = then_number s3 ctag_at ctag q4 refl in
    let s5 = then_number s4 port_at port q5 refl in
    let s6 = then_number s5 teid_at teid.0 q6 refl in
    let s7 = then_byte s6 given_at g q7 refl in
    let s8 = then_byte s7 flags_at f q8 refl in
    rw (eg, ef, es, ec, ep, et) at (then_head s8 Done n q9 refl)

-- how long the image is
long : (n : ℕ) (r : OuterHeaderCreation) → IfSome r.ipv4_address (λ bs. length bs ≡ 4) → IfSome r.ipv6_address (λ bs. length bs ≡ 16) → length (head Done n ++ record_image r) ≡ size
unfolding record_image
long n r l4 l6 = simp (length-append, length_head, length_little_endian_bytes_law, length_address_bytes 4 r.ipv4_address l4, length_address_bytes 16 r.ipv6_address l6) (omega arith)

pub returns-then-out-lt-SIZE : goal.returns-then-out-lt-SIZE
returns-then-out-lt-SIZE c =
    let r = c.args.«record» in
    let l4 : IfSome r.ipv4_address (λ bs. length bs ≡ 4) = search rules in
    let l6 : IfSome r.ipv6_address (λ bs. length bs ≡ 16) = search rules in
    let l = long c.args.used r l4 l6 in
    sym (put_not _ _ _ (omega arith))

pub returns : goal.returns
returns c =
    let r = c.args.«record» in
    let l4 : IfSome r.ipv4_address (λ bs. length bs ≡ 4) = search rules in
    let l6 : IfSome r.ipv6_address (λ bs. length bs ≡ 16) = search rules in
    let given = rw (c.is_some.ensures, c.is_some-2.ensures, c.is_some-3.ensures, c.is_some-4.ensures, c.is_some-5.ensures, c.is_some-6.ensures) at c.flag_byte-given.ensures in
    stored _ _ _ _ _ _ _ _ _ _ _ r _ _ _ _ _ _ c.if-out-lt-SIZE.false c.requires l4 l6 c.unwrap_or.ensures c.unwrap_or-2.ensures c.unwrap_or-3.ensures c.unwrap_or-4.ensures given c.put_address.ensures c.put_address-2.ensures c.put_u64.ensures c.put_u64-2.ensures c.put_u64-3.ensures c.put_u64-4.ensures c.put_byte.ensures c.put_byte-2.ensures c.put_head.ensures

pub shape_of-out : goal.shape_of-out
shape_of-out c = ap length (returns c) ∙ length_put _ _ _
