-- The Outer Header Creation in a record image: the head, then the fields, each at its place.
use Rattle.std.specs.Prelude.{ℕ, ◌+◌, ◌%◌, Bool, List, [], ◌∷◌, ◌++◌, length, get_or, is_some, unwrap_or}
use Rattle.std.specs.Bool.{then_some}
use Rattle.answer.specs.declared.Read.{Read}
use Rattle.answer.specs.declared.Written.{Written}
use Rattle.answer.specs.Paper.{written}
use Rattle.octets.specs.Octets.{bit, if_set, flag_byte, field, address_of, put}
use Rattle.outer_header_creation.specs.declared.OuterHeaderCreation.{OuterHeaderCreation}
use Rattle.outer_header_creation.specs.OuterHeaderCreation.{flags_of, byte_of, meaning, wire}
use Rattle.image.specs.Image.{little_endian_bytes, number_at, address_bytes, head, head_size}

-- flags, a byte: bit 0 GTP-U/UDP/IPv4, 1 GTP-U/UDP/IPv6, 2 UDP/IPv4, 3 UDP/IPv6, 4 IPv4, 5 IPv6, 6 C-TAG, 7 S-TAG
abbrev pub flags_at : ℕ
flags_at = head_size

-- fields given, a byte: bit 0 IPv4, 1 IPv6, 2 TEID, 3 port, 4 C-TAG, 5 S-TAG
abbrev pub given_at : ℕ
given_at = flags_at + 1

-- the TEID, a number whose low 32 bits count
abbrev pub teid_at : ℕ
teid_at = given_at + 1

-- the port, a number whose low 16 bits count
abbrev pub port_at : ℕ
port_at = teid_at + 8

-- the tags, numbers whose low 32 bits count
abbrev pub ctag_at : ℕ
ctag_at = port_at + 8

abbrev pub stag_at : ℕ
stag_at = ctag_at + 8

-- the addresses
abbrev pub ipv4_at : ℕ
ipv4_at = stag_at + 8

abbrev pub ipv6_at : ℕ
ipv6_at = ipv4_at + 4

-- how long an image is
abbrev pub size : ℕ
size = ipv6_at + 16

-- the bytes of a record: zeros where a field is absent
unfoldable pub record_image : OuterHeaderCreation → List ℕ
record_image r =
    byte_of r.description
    ∷ flag_byte
    (is_some r.ipv4_address
    ∷ is_some r.ipv6_address
    ∷ is_some r.teid
    ∷ is_some r.port_number
    ∷ is_some r.ctag
    ∷ is_some r.stag
    ∷ [])
    ∷ (little_endian_bytes 8 (unwrap_or r.teid (record { 0 = 0 })).0
    ++ (little_endian_bytes 8 (unwrap_or r.port_number 0)
    ++ (little_endian_bytes 8 (unwrap_or r.ctag 0)
    ++ (little_endian_bytes 8 (unwrap_or r.stag 0)
    ++ (address_bytes 4 r.ipv4_address ++ address_bytes 16 r.ipv6_address)))))

-- the image of what a read answered
abbrev pub image_of : Read OuterHeaderCreation → List ℕ
image_of r = head r.answer r.used ++ record_image r.«record»

-- the record that stands in an image
unfoldable pub record_at : List ℕ → OuterHeaderCreation
record_at m =
    let given : ℕ → Bool = λ k. bit k (get_or m given_at 0) in
    record {
      description = flags_of (get_or m flags_at 0);
      teid = then_some (given 2) (record { 0 = number_at m teid_at % 4294967296 });
      ipv4_address = address_of 4 (field m ipv4_at (if_set (given 0) 4));
      ipv6_address = address_of 16 (field m ipv6_at (if_set (given 1) 16));
      port_number = then_some (given 3) (number_at m port_at % 65536);
      ctag = then_some (given 4) (number_at m ctag_at % 4294967296);
      stag = then_some (given 5) (number_at m stag_at % 4294967296);
    }

-- what writing that record answers, and the output that it leaves
abbrev pub written_form : List ℕ → List ℕ
written_form m = wire (meaning (record_at m))

unfoldable pub writes : List ℕ → List ℕ → Written
writes m out = written (length (written_form m)) (length out)

unfoldable pub stores : List ℕ → List ℕ → List ℕ
stores m out = put out 0 (written_form m)
