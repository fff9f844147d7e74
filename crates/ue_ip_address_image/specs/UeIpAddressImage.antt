-- The UE IP Address in a record image: the head, then the fields, each at its place.
use Rattle.std.specs.Prelude.{ℕ, ◌+◌, Bool, List, [], ◌∷◌, ◌++◌, length, get_or, is_some, unwrap_or}
use Rattle.std.specs.Bool.{then_some}
use Rattle.answer.specs.declared.Read.{Read}
use Rattle.answer.specs.declared.Written.{Written}
use Rattle.answer.specs.Paper.{written}
use Rattle.octets.specs.Octets.{bit, if_set, flag_byte, field, address_of, put}
use Rattle.ue_ip_address.specs.declared.UeIpAddress.{UeIpAddress}
use Rattle.ue_ip_address.specs.UeIpAddress.{meaning, wire}
use Rattle.image.specs.Image.{head_size, address_bytes, head}

-- flags, a byte: bit 0 V6, 1 V4, 2 S/D, 3 IPv6D, 4 CHV4, 5 CHV6, 6 IP6PL
abbrev pub flags_at : ℕ
flags_at = head_size

-- fields given, a byte: bit 0 IPv4, 1 IPv6, 2 delegation bits, 3 prefix length
abbrev pub given_at : ℕ
given_at = flags_at + 1

-- the delegation bits and the prefix length, a byte each
abbrev pub bits_at : ℕ
bits_at = given_at + 1

abbrev pub prefix_at : ℕ
prefix_at = bits_at + 1

-- the addresses
abbrev pub ipv4_at : ℕ
ipv4_at = prefix_at + 1

abbrev pub ipv6_at : ℕ
ipv6_at = ipv4_at + 4

-- how long an image is
abbrev pub size : ℕ
size = ipv6_at + 16

-- the bytes of a record: zeros where a field is absent
unfoldable pub record_image : UeIpAddress → List ℕ
record_image r =
    flag_byte
    (r.v6
    ∷ r.v4
    ∷ r.source_destination
    ∷ r.ipv6_prefix_delegation
    ∷ r.choose_ipv4
    ∷ r.choose_ipv6
    ∷ r.ipv6_prefix_length_present
    ∷ [])
    ∷ flag_byte
    (is_some r.ipv4_address
    ∷ is_some r.ipv6_address
    ∷ is_some r.ipv6_prefix_delegation_bits
    ∷ is_some r.ipv6_prefix_length
    ∷ [])
    ∷ unwrap_or r.ipv6_prefix_delegation_bits 0
    ∷ unwrap_or r.ipv6_prefix_length 0
    ∷ (address_bytes 4 r.ipv4_address ++ address_bytes 16 r.ipv6_address)

-- the image of what a read answered
abbrev pub image_of : Read UeIpAddress → List ℕ
image_of r = head r.answer r.used ++ record_image r.«record»

-- the record that stands in an image
unfoldable pub record_at : List ℕ → UeIpAddress
record_at m =
    let flag : ℕ → Bool = λ k. bit k (get_or m flags_at 0) in
    let given : ℕ → Bool = λ k. bit k (get_or m given_at 0) in
    record {
      v4 = flag 1;
      v6 = flag 0;
      source_destination = flag 2;
      ipv6_prefix_delegation = flag 3;
      choose_ipv4 = flag 4;
      choose_ipv6 = flag 5;
      ipv6_prefix_length_present = flag 6;
      ipv4_address = address_of 4 (field m ipv4_at (if_set (given 0) 4));
      ipv6_address = address_of 16 (field m ipv6_at (if_set (given 1) 16));
      ipv6_prefix_delegation_bits = then_some (given 2) (get_or m bits_at 0);
      ipv6_prefix_length = then_some (given 3) (get_or m prefix_at 0);
    }

-- what writing that record answers, and the output that it leaves
abbrev pub written_form : List ℕ → List ℕ
written_form m = wire (meaning (record_at m))

unfoldable pub writes : List ℕ → List ℕ → Written
writes m out = written (length (written_form m)) (length out)

unfoldable pub stores : List ℕ → List ℕ → List ℕ
stores m out = put out 0 (written_form m)
