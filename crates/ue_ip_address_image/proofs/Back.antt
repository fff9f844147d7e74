-- What stands in the image of a read is the record that was read, and writing it gives the cleared payload. No contract cites this file.
use Prim.Native.Nat.{ℕ, ◌+◌, ◌≤◌}
use native.Mathlib.Omega.{arith}
use mathlib.Core.Path.{◌≡◌, refl, ap, ◌∙◌}
use mathlib.Core.Bool.{Bool, false}
use mathlib.Core.List.{List, [], ◌∷◌}
use lib.ListN.{length, get_or, length-append}
use Rattle.std.specs.Prelude.{Option, Some, None, is_some, unwrap_or}
use Rattle.std.specs.Bool.{then_some}
use Rattle.octets.specs.Octets.{bit, if_set, field, address_of, number_of}
use Rattle.kind.specs.Layout.{Outcome, accepts, refuses, outcome}
use Rattle.ue_ip_address.specs.declared.UeIpAddress.{UeIpAddress}
use Rattle.ue_ip_address.specs.UeIpAddress.{meaning, wire, layout, record_of, refused, found, read}
use Rattle.ue_ip_address.proofs.OfKind.{kind}
use Rattle.image.specs.Image.{address_bytes, read_image}
use Rattle.image.proofs.Back.{flag_back, last, byte, length_address, address, ImageOf, image_left, Again}
use Rattle.image.proofs.Back as image
use Rattle.ue_ip_address_image.specs.UeIpAddressImage.{size, record_image, image_of, record_at, written_form, writes, stores}

-- a record as a reader makes it
abbrev its : (v4 v6 sd ipv6d chv4 chv6 ip6pl : Bool) (p q : List ℕ) (bits long : Option ℕ) → UeIpAddress
its v4 v6 sd ipv6d chv4 chv6 ip6pl p q bits long =
    record {
      v4 = v4;
      v6 = v6;
      source_destination = sd;
      ipv6_prefix_delegation = ipv6d;
      choose_ipv4 = chv4;
      choose_ipv6 = chv6;
      ipv6_prefix_length_present = ip6pl;
      ipv4_address = address_of 4 p;
      ipv6_address = address_of 16 q;
      ipv6_prefix_delegation_bits = bits;
      ipv6_prefix_length = long;
    }

-- a number that may be absent, from its byte of an image
there_or_not : (o : Option ℕ) → then_some (is_some o) (unwrap_or o 0) ≡ o
there_or_not (Some x) = refl
there_or_not None = refl

abbrev Kept : UeIpAddress → Type 0
Kept r = ImageOf 24 record_at (record_image r) r

laid : (v4 v6 sd ipv6d chv4 chv6 ip6pl : Bool) (p q : List ℕ) (bits long : Option ℕ) → Kept (its v4 v6 sd ipv6d chv4 chv6 ip6pl p q bits long)
unfolding record_image record_at
laid v4 v6 sd ipv6d chv4 chv6 ip6pl p q bits long =
    let flags = v6 ∷ v4 ∷ sd ∷ ipv6d ∷ chv4 ∷ chv6 ∷ ip6pl ∷ [] in
    let given = is_some (address_of 4 p) ∷ is_some (address_of 16 q) ∷ is_some bits ∷ is_some long ∷ [] in
    record {
      size_is = omega (arith, length-append (address_bytes 4 (address_of 4 p)) (address_bytes 16 (address_of 16 q)), length_address 4 p, length_address 16 q);
      found = λ m h.
          let (e₀, h₁) = byte h in
          let (e₁, h₂) = byte h₁ in
          let (e₂, h₃) = byte h₂ in
          let (e₃, h₄) = byte h₃ in
          let (e₄, h₅) = address 4 p (omega arith) h₄ in
          let (e₅, h₆) = address 16 q (omega arith) (last h₅) in
          rw (e₀, e₁, flag_back flags 0, flag_back flags 1, flag_back flags 2, flag_back flags 3)
          (rw (flag_back flags 4, flag_back flags 5, flag_back flags 6, flag_back given 0)
          (rw (flag_back given 1, flag_back given 2, flag_back given 3, e₂, e₃, e₄, e₅, there_or_not bits, there_or_not long)));
    }

by_outcome : (s : List ℕ) (o : Outcome) → Kept (found s o).«record»
unfolding found refused record_of address_of
by_outcome s (accepts n) =
    let flag : ℕ → Bool = λ k. bit k (get_or s 0 0) in
    let end4 = 1 + if_set (flag 1) 4 in
    let end6 = end4 + if_set (flag 0) 16 in
    let end_bits = end6 + if_set (flag 3) 1 in
    laid (flag 1) (flag 0) (flag 2) (flag 3) (flag 4) (flag 5) (flag 6)
    (field s 1 (if_set (flag 1) 4))
    (field s end4 (if_set (flag 0) 16))
    (number_of 1 (field s end6 (if_set (flag 3) 1)))
    (number_of 1 (field s end_bits (if_set (flag 6) 1)))
by_outcome s (refuses a) = laid false false false false false false false [] [] None None

-- the memory that a read of s left
abbrev pub left : List ℕ → List ℕ → List ℕ
left s d = read_image size d (image_of (read s))

-- the record that stands there is the one that was read
pub record_in_image : (s d : List ℕ) → size ≤ length d → record_at (left s d) ≡ (read s).«record»
unfolding read
record_in_image s d room = image_left 24 (by_outcome s (outcome layout s)) _ _ d room

-- and so, where the read was done, writing it again gives the cleared payload
pub again : Again kind size left (λ m s. written_form m) (λ m s. writes m) (λ m s. stores m)
unfolding writes stores
again = image.again kind size left _ _ _ (λ s v n r d room. ap (λ (x : UeIpAddress). wire (meaning x)) (record_in_image s d room) ∙ ap wire r.value) (λ s v n r d room out. (refl, refl))
