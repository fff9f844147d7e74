-- The F-TEID in a record image: the head, then the fields, each at its place.
use Rattle.std.specs.Prelude.{ℕ, ◌+◌, ◌%◌, Bool, List, [], ◌∷◌, ◌++◌, length, get_or, is_some}
use Rattle.answer.specs.declared.Read.{Read}
use Rattle.answer.specs.declared.Written.{Written}
use Rattle.answer.specs.Paper.{written}
use Rattle.octets.specs.Octets.{bit, if_set, flag_byte, field, address_of, put}
use Rattle.f_teid.specs.declared.Fteid.{Fteid}
use Rattle.f_teid.specs.Fteid.{meaning, wire}
use Rattle.image.specs.Image.{little_endian_bytes, number_at, address_bytes, head, head_size}

-- flags, a byte: bit 0 V4, 1 V6, 2 CH, 3 CHID
abbrev pub flags_at : ℕ
flags_at = head_size

-- fields given, a byte: bit 0 IPv4, 1 IPv6
abbrev pub given_at : ℕ
given_at = flags_at + 1

-- the TEID, a number whose low 32 bits count
abbrev pub teid_at : ℕ
teid_at = given_at + 1

-- the choose ID, a byte
abbrev pub choose_id_at : ℕ
choose_id_at = teid_at + 8

-- the addresses
abbrev pub ipv4_at : ℕ
ipv4_at = choose_id_at + 1

abbrev pub ipv6_at : ℕ
ipv6_at = ipv4_at + 4

-- how long an image is
abbrev pub size : ℕ
size = ipv6_at + 16

-- the bytes of a record
unfoldable pub record_image : Fteid → List ℕ
record_image r =
    flag_byte (r.v4 ∷ r.v6 ∷ r.ch ∷ r.chid ∷ [])
    ∷ flag_byte (is_some r.ipv4_address ∷ is_some r.ipv6_address ∷ [])
    ∷ (little_endian_bytes 8 r.teid.0
    ++ (r.choose_id
    ∷ (address_bytes 4 r.ipv4_address
    ++ address_bytes 16 r.ipv6_address)))

-- the image of what a read answered
abbrev pub image_of : Read Fteid → List ℕ
image_of r = head r.answer r.used ++ record_image r.«record»

-- the record that stands in an image
unfoldable pub record_at : List ℕ → Fteid
record_at m =
    let flag : ℕ → Bool = λ k. bit k (get_or m flags_at 0) in
    let given : ℕ → Bool = λ k. bit k (get_or m given_at 0) in
    record {
      v4 = flag 0;
      v6 = flag 1;
      ch = flag 2;
      chid = flag 3;
      teid = record { 0 = number_at m teid_at % 4294967296 };
      ipv4_address = address_of 4 (field m ipv4_at (if_set (given 0) 4));
      ipv6_address = address_of 16 (field m ipv6_at (if_set (given 1) 16));
      choose_id = get_or m choose_id_at 0;
    }

-- what writing that record answers, and the output that it leaves
abbrev pub written_form : List ℕ → List ℕ
written_form m = wire (meaning (record_at m))

unfoldable pub writes : List ℕ → List ℕ → Written
writes m out = written (length (written_form m)) (length out)

unfoldable pub stores : List ℕ → List ℕ → List ℕ
stores m out = put out 0 (written_form m)
