-- `fseid_image::put_image` meets its contract: its puts, from the back to the front, are one put of the image.
use Prim.Native.Nat.{ℕ, ◌≤◌}
use native.Mathlib.Omega.{arith}
use mathlib.Core.Path.{◌≡◌, refl, sym}
use mathlib.Core.Bool.{false}
use mathlib.Core.List.{List, [], ◌∷◌, ◌++◌}
use Rattle.std.specs.Prelude.{is_some, IfSome}
use lib.ListN.{length, length-append}
use Rattle.answer.specs.declared.Answer.TheVariants.{Done}
use Rattle.octets.specs.Octets.{if_set, flag_byte, put}
use Rattle.fseid.specs.declared.Fseid.{Fseid}
use Rattle.octets.proofs.Laws.{put_not}
use Rattle.image.specs.Image.{address_bytes, head, little_endian_bytes}
use Rattle.image.proofs.Laws.{last_part, length_address_bytes, length_head, length_little_endian_bytes_law, then_byte, then_part, then_head, then_number}
use Rattle.fseid_image.specs.FseidImage.{flags_at, given_at, seid_at, ipv4_at, ipv6_at, size, record_image}
use borrow.Author.Rules.{rules}
use Rattle.fseid_image.proofs.put_image.Goals as goal

stored : (d d1 d2 d3 d4 d5 d6 : List ℕ) (n : ℕ) (r : Fseid) (g f : ℕ) → size ≤ length d
    → IfSome r.ipv4_address (λ bs. length bs ≡ 4)
    → IfSome r.ipv6_address (λ bs. length bs ≡ 16)
    → g ≡ flag_byte (is_some r.ipv4_address ∷ is_some r.ipv6_address ∷ false ∷ false ∷ false ∷ false ∷ false ∷ false ∷ [])
    → f ≡ flag_byte (r.v6 ∷ r.v4 ∷ false ∷ false ∷ false ∷ false ∷ false ∷ false ∷ [])
    → d1 ≡ put d ipv6_at (address_bytes 16 r.ipv6_address)
    → d2 ≡ put d1 ipv4_at (address_bytes 4 r.ipv4_address)
    → d3 ≡ put d2 seid_at (little_endian_bytes 8 r.seid.0)
    → d4 ≡ put d3 given_at (g ∷ [])
    → d5 ≡ put d4 flags_at (f ∷ [])
    → d6 ≡ put d5 0 (head Done n)
    → d6 ≡ put d 0 (head Done n ++ record_image r)
unfolding record_image flag_byte if_set
stored d d1 d2 d3 d4 d5 d6 n r g f room l4 l6 eg ef q1 q2 q3 q4 q5 q6 =
    let s1 = last_part size 16 ipv6_at (address_bytes 16 r.ipv6_address) room (length_address_bytes 16 r.ipv6_address l6) refl q1 in
    let s2 = then_part s1 4 ipv4_at (address_bytes 4 r.ipv4_address) (length_address_bytes 4 r.ipv4_address l4) q2 refl in
    let s3 = then_number s2 seid_at r.seid.0 q3 refl in
    let s4 = then_byte s3 given_at g q4 refl in
    let s5 = then_byte s4 flags_at f q5 refl in
    rw (eg, ef) at (then_head s5 Done n q6 refl)

-- how long the image is
long : (n : ℕ) (r : Fseid) → IfSome r.ipv4_address (λ bs. length bs ≡ 4) → IfSome r.ipv6_address (λ bs. length bs ≡ 16) → length (head Done n ++ record_image r) ≡ size
unfolding record_image
long n r l4 l6 = simp (length-append, length_head, length_little_endian_bytes_law, length_address_bytes 4 r.ipv4_address l4, length_address_bytes 16 r.ipv6_address l6) (omega arith)

pub returns-then-out-lt-SIZE : goal.returns-then-out-lt-SIZE
returns-then-out-lt-SIZE c =
    let l4 : IfSome c.args.«record».ipv4_address (λ bs. length bs ≡ 4) = search rules in
    let l6 : IfSome c.args.«record».ipv6_address (λ bs. length bs ≡ 16) = search rules in
    let l = long c.args.used c.args.«record» l4 l6 in
    sym (put_not _ _ _ (omega arith))

pub returns : goal.returns
returns c =
    let l4 : IfSome c.args.«record».ipv4_address (λ bs. length bs ≡ 4) = search rules in
    let l6 : IfSome c.args.«record».ipv6_address (λ bs. length bs ≡ 16) = search rules in
    let given = rw (c.is_some.ensures, c.is_some-2.ensures) at c.flag_byte-given.ensures in
    stored _ _ _ _ _ _ _ _ c.args.«record» _ _ c.if-out-lt-SIZE.false l4 l6 given c.flag_byte-flags.ensures c.put_address.ensures c.put_address-2.ensures c.put_u64.ensures c.put_byte.ensures c.put_byte-2.ensures c.put_head.ensures
