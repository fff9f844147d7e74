-- `f_teid_image::put_image` meets its contract: its puts, from the back to the front, are one put of the image.
use Prim.Native.Nat.{ℕ, ◌≤◌}
use native.Mathlib.Omega.{arith}
use mathlib.Core.Path.{◌≡◌, refl, sym}
use mathlib.Core.Bool.{false}
use mathlib.Core.List.{List, [], ◌∷◌, ◌++◌}
use Rattle.std.specs.Prelude.{is_some, IfSome}
use lib.ListN.{length, length-append}
use Rattle.answer.specs.declared.Answer.{Answer}
use Rattle.answer.specs.declared.Answer.TheVariants.{Done}
use Rattle.octets.specs.Octets.{if_set, flag_byte, put}
use Rattle.f_teid.specs.declared.Fteid.{Fteid}
use Rattle.octets.proofs.Laws.{put_not}
use Rattle.image.specs.Image.{address_bytes, head, little_endian_bytes}
use Rattle.image.proofs.Laws.{last_part, length_address_bytes, length_head, length_little_endian_bytes_law, then_byte, then_part, then_head, then_number}
use Rattle.f_teid_image.specs.FteidImage.{flags_at, given_at, teid_at, choose_id_at, ipv4_at, ipv6_at, size, record_image}
use borrow.Author.Rules.{rules}
use Rattle.f_teid_image.proofs.put_image.Goals as goal

stored : (d d1 d2 d3 d4 d5 d6 d7 : List ℕ) (a : Answer) (n : ℕ) (r : Fteid) (g f : ℕ) → size ≤ length d
    → IfSome r.ipv4_address (λ bs. length bs ≡ 4)
    → IfSome r.ipv6_address (λ bs. length bs ≡ 16)
    → g ≡ flag_byte (is_some r.ipv4_address ∷ is_some r.ipv6_address ∷ false ∷ false ∷ false ∷ false ∷ false ∷ false ∷ [])
    → f ≡ flag_byte (r.v4 ∷ r.v6 ∷ r.ch ∷ r.chid ∷ false ∷ false ∷ false ∷ false ∷ [])
    → d1 ≡ put d ipv6_at (address_bytes 16 r.ipv6_address)
    → d2 ≡ put d1 ipv4_at (address_bytes 4 r.ipv4_address)
    → d3 ≡ put d2 choose_id_at (r.choose_id ∷ [])
    → d4 ≡ put d3 teid_at (little_endian_bytes 8 r.teid.0)
    → d5 ≡ put d4 given_at (g ∷ [])
    → d6 ≡ put d5 flags_at (f ∷ [])
    → d7 ≡ put d6 0 (head a n)
    → d7 ≡ put d 0 (head a n ++ record_image r)
unfolding record_image flag_byte if_set
stored d d1 d2 d3 d4 d5 d6 d7 a n r g f room l4 l6 eg ef q1 q2 q3 q4 q5 q6 q7 =
    let s1 = last_part size 16 ipv6_at (address_bytes 16 r.ipv6_address) room (length_address_bytes 16 r.ipv6_address l6) refl q1 in
    let s2 = then_part s1 4 ipv4_at (address_bytes 4 r.ipv4_address) (length_address_bytes 4 r.ipv4_address l4) q2 refl in
    let s3 = then_byte s2 choose_id_at r.choose_id q3 refl in
    let s4 = then_number s3 teid_at r.teid.0 q4 refl in
    let s5 = then_byte s4 given_at g q5 refl in
    let s6 = then_byte s5 flags_at f q6 refl in
    rw (eg, ef) at (then_head s6 a n q7 refl)

-- how long the image is
long : (a : Answer) (n : ℕ) (r : Fteid) → IfSome r.ipv4_address (λ bs. length bs ≡ 4) → IfSome r.ipv6_address (λ bs. length bs ≡ 16) → length (head a n ++ record_image r) ≡ size
unfolding record_image
long a n r l4 l6 = simp (length-append, length_head, length_little_endian_bytes_law, length_address_bytes 4 r.ipv4_address l4, length_address_bytes 16 r.ipv6_address l6) (omega arith)

pub returns-then-out-lt-SIZE : goal.returns-then-out-lt-SIZE
returns-then-out-lt-SIZE c =
    let l4 : IfSome c.args.«record».ipv4_address (λ bs. length bs ≡ 4) = search rules in
    let l6 : IfSome c.args.«record».ipv6_address (λ bs. length bs ≡ 16) = search rules in
    let l = long Done c.args.used c.args.«record» l4 l6 in
    sym (put_not _ _ _ (omega arith))

pub returns : goal.returns
returns c =
    let l4 : IfSome c.args.«record».ipv4_address (λ bs. length bs ≡ 4) = search rules in
    let l6 : IfSome c.args.«record».ipv6_address (λ bs. length bs ≡ 16) = search rules in
    let given = rw (c.is_some.ensures, c.is_some-2.ensures) at c.flag_byte-given.ensures in
    stored _ _ _ _ _ _ _ _ _ _ c.args.«record» _ _ c.if-out-lt-SIZE.false l4 l6 given c.flag_byte-flags.ensures c.put_address.ensures c.put_address-2.ensures c.put_byte.ensures c.put_u64.ensures c.put_byte-2.ensures c.put_byte-3.ensures c.put_head.ensures
