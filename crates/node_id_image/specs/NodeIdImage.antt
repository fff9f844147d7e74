-- The Node ID in a record image: the head, then the fields, each at its place.
use Rattle.std.specs.Prelude.{ℕ, zero, suc, ◌+◌, List, ◌∷◌, ◌++◌, length, get_or, replicate}
use Rattle.answer.specs.declared.Read.{Read}
use Rattle.answer.specs.declared.Written.{Written}
use Rattle.octets.specs.Octets.{field, address_of}
use Rattle.kind.specs.Write.{answered, stored}
use Rattle.node_id.specs.declared.NodeId.{NodeId}
use Rattle.node_id.specs.declared.NodeId.TheVariants.{Ipv4, Ipv6, Fqdn}
use Rattle.node_id.specs.NodeId.{meaning, wire, write_refusal}
use Rattle.image.specs.Image.{little_endian_bytes, number_at, address_bytes, head, head_size}
use Rattle.node_id_image.specs.declared.Fields.{Fields}

-- the type, a byte: 0 IPv4, 1 IPv6, any other a name
abbrev pub type_at : ℕ
type_at = head_size

-- the place of the name in the lent texts, and its length, two numbers
abbrev pub place_at : ℕ
place_at = type_at + 1

abbrev pub len_at : ℕ
len_at = place_at + 8

-- the addresses
abbrev pub ipv4_at : ℕ
ipv4_at = len_at + 8

abbrev pub ipv6_at : ℕ
ipv6_at = ipv4_at + 4

-- how long an image is
abbrev pub size : ℕ
size = ipv6_at + 16

-- the fields of a record, each at its place; those that its type doesn't name are zeros
abbrev pub fields_of : NodeId → Fields
fields_of (Ipv4 a) = record { type_byte = 0; name = record { place = 0; len = 0 }; ipv4_address = a; ipv6_address = replicate 16 0 }
fields_of (Ipv6 a) = record { type_byte = 1; name = record { place = 0; len = 0 }; ipv4_address = replicate 4 0; ipv6_address = a }
fields_of (Fqdn name) = record { type_byte = 2; name = name; ipv4_address = replicate 4 0; ipv6_address = replicate 16 0 }

-- and back, by the type
abbrev pub typed : ℕ → Fields → NodeId
typed zero f = Ipv4 f.ipv4_address
typed (suc zero) f = Ipv6 f.ipv6_address
typed (suc (suc b)) f = Fqdn f.name

abbrev pub record_of : Fields → NodeId
record_of f = typed f.type_byte f

-- the bytes of a record
abbrev pub bytes_of : Fields → List ℕ
bytes_of f =
    f.type_byte
    ∷ (little_endian_bytes 8 f.name.place
    ++ (little_endian_bytes 8 f.name.len
    ++ (f.ipv4_address
    ++ f.ipv6_address)))

unfoldable pub record_image : NodeId → List ℕ
record_image r = bytes_of (fields_of r)

-- the image of what a read answered
abbrev pub image_of : Read NodeId → List ℕ
image_of r = head r.answer r.used ++ record_image r.«record»

-- the record that stands in an image
unfoldable pub record_at : List ℕ → NodeId
record_at m =
    record_of
    (record {
      type_byte = get_or m type_at 0;
      name = record { place = number_at m place_at; len = number_at m len_at };
      ipv4_address = address_bytes 4 (address_of 4 (field m ipv4_at 4));
      ipv6_address = address_bytes 16 (address_of 16 (field m ipv6_at 16));
    })

-- what writing that record with the texts that are lent answers, and the output that it leaves
abbrev pub written_form : List ℕ → List ℕ → List ℕ
written_form m texts = wire (meaning texts (record_at m))

unfoldable pub writes : List ℕ → List ℕ → List ℕ → Written
writes m texts out = answered (write_refusal texts (record_at m)) (written_form m texts) (length out)

unfoldable pub stores : List ℕ → List ℕ → List ℕ → List ℕ
stores m texts out = stored (write_refusal texts (record_at m)) out (written_form m texts)
