-- The F-SEID in a record image: the head, then the fields, each at its place.
use Rattle.std.specs.Prelude.{ℕ, ◌+◌, Bool, List, [], ◌∷◌, ◌++◌, length, get_or, is_some}
use Rattle.answer.specs.declared.Read.{Read}
use Rattle.answer.specs.declared.Written.{Written}
use Rattle.answer.specs.Paper.{written}
use Rattle.octets.specs.Octets.{bit, if_set, flag_byte, field, address_of, put}
use Rattle.fseid.specs.declared.Fseid.{Fseid}
use Rattle.fseid.specs.Fseid.{meaning, wire}
use Rattle.image.specs.Image.{little_endian_bytes, number_at, address_bytes, head, head_size}

-- flags, a byte: bit 0 V6, bit 1 V4
abbrev pub flags_at : ℕ
flags_at = head_size

-- fields given, a byte: bit 0 IPv4, bit 1 IPv6
abbrev pub given_at : ℕ
given_at = flags_at + 1

-- the SEID, a number
abbrev pub seid_at : ℕ
seid_at = given_at + 1

-- the addresses
abbrev pub ipv4_at : ℕ
ipv4_at = seid_at + 8

abbrev pub ipv6_at : ℕ
ipv6_at = ipv4_at + 4

-- how long an image is
abbrev pub size : ℕ
size = ipv6_at + 16

-- the bytes of a record
unfoldable pub record_image : Fseid → List ℕ
record_image r =
    flag_byte (r.v6 ∷ r.v4 ∷ [])
    ∷ flag_byte (is_some r.ipv4_address ∷ is_some r.ipv6_address ∷ [])
    ∷ (little_endian_bytes 8 r.seid.0
    ++ (address_bytes 4 r.ipv4_address
    ++ address_bytes 16 r.ipv6_address))

-- the image of what a read answered
abbrev pub image_of : Read Fseid → List ℕ
image_of r = head r.answer r.used ++ record_image r.«record»

-- the record that stands in an image
unfoldable pub record_at : List ℕ → Fseid
record_at m =
    let flag : ℕ → Bool = λ k. bit k (get_or m flags_at 0) in
    let given : ℕ → Bool = λ k. bit k (get_or m given_at 0) in
    record {
      v4 = flag 1;
      v6 = flag 0;
      seid = record { 0 = number_at m seid_at };
      ipv4_address = address_of 4 (field m ipv4_at (if_set (given 0) 4));
      ipv6_address = address_of 16 (field m ipv6_at (if_set (given 1) 16));
    }

-- what writing that record answers, and the output that it leaves
abbrev pub written_form : List ℕ → List ℕ
written_form m = wire (meaning (record_at m))

unfoldable pub writes : List ℕ → List ℕ → Written
writes m out = written (length (written_form m)) (length out)

unfoldable pub stores : List ℕ → List ℕ → List ℕ
stores m out = put out 0 (written_form m)
