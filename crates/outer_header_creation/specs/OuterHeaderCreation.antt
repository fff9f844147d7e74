-- Outer Header Creation, as document 01 has it.
use Rattle.std.specs.Prelude.{ℕ, ◌+◌, ◌%◌, ◌^◌, Bool, true, ◌||◌, get_or, Option, None, Some, option_map, unwrap_or}
use mathlib.Core.List.{List, [], ◌∷◌, flatten}
use Rattle.answer.specs.declared.Answer.{Answer}
use Rattle.answer.specs.declared.Answer.TheVariants.{Done}
use Rattle.answer.specs.declared.Read.{Read}
use Rattle.types.specs.declared.Teid.{Teid}
use Rattle.octets.specs.Octets.{pick, bit, if_set, flag_byte, field, big_endian_bytes, bytes_if, number_if, address_of, number_of}
use Rattle.kind.specs.Layout.{Wanted, wanted, Layout, Outcome, accepts, refuses, outcome}
use Rattle.kind.specs.Kind.{Reader}
use Rattle.outer_header_creation.specs.declared.OuterHeaderCreationFlags.{OuterHeaderCreationFlags}
use Rattle.outer_header_creation.specs.declared.OuterHeaderCreation.{OuterHeaderCreation}
use Rattle.outer_header_creation.specs.declared.SentFields.{SentFields}

abbrev pub Flags : Type 0
Flags = OuterHeaderCreationFlags

-- ---- the flags

-- those of byte 0
abbrev pub flags_of : ℕ → Flags
flags_of b =
    record {
      gtpu_udp_ipv4 = bit 0 b;
      gtpu_udp_ipv6 = bit 1 b;
      udp_ipv4 = bit 2 b;
      udp_ipv6 = bit 3 b;
      ipv4 = bit 4 b;
      ipv6 = bit 5 b;
      ctag = bit 6 b;
      stag = bit 7 b;
    }

-- and byte 0 of them
abbrev pub byte_of : Flags → ℕ
byte_of f =
    flag_byte
    (f.gtpu_udp_ipv4 ∷ f.gtpu_udp_ipv6 ∷ f.udp_ipv4 ∷ f.udp_ipv6 ∷ f.ipv4 ∷ f.ipv6 ∷ f.ctag ∷ f.stag ∷ [])

-- the fields that they ask for
abbrev pub asked : Flags → SentFields
asked f =
    record {
      teid = f.gtpu_udp_ipv4 || f.gtpu_udp_ipv6;
      ipv4 = f.gtpu_udp_ipv4 || f.udp_ipv4 || f.ipv4;
      ipv6 = f.gtpu_udp_ipv6 || f.udp_ipv6 || f.ipv6;
      port = f.udp_ipv4 || f.udp_ipv6;
      ctag = f.ctag;
      stag = f.stag;
    }

-- ---- what a record means, and its written form
pub record Value : Type 0 where
  pub flags : Flags
  pub teid : Option ℕ
  pub ipv4 : Option (List ℕ)
  pub ipv6 : Option (List ℕ)
  pub port : Option ℕ
  pub ctag : Option ℕ
  pub stag : Option ℕ

unfoldable pub meaning : OuterHeaderCreation → Value
meaning r =
    record {
      flags = r.description;
      teid = option_map (λ t. t.0) r.teid;
      ipv4 = r.ipv4_address;
      ipv6 = r.ipv6_address;
      port = r.port_number;
      ctag = r.ctag;
      stag = r.stag;
    }

-- bytes that are sent under a flag only
unfoldable pub sent_if : Bool → List ℕ → List ℕ
sent_if f bs = pick f bs []

-- flags and a zero byte, then each field under its flags: TEID and port also where they are absent, as 0, an address or a tag only where it is given
unfoldable pub wire : Value → List ℕ
wire v =
    let a = asked v.flags in
    byte_of v.flags
    ∷ 0
    ∷ flatten
    (sent_if a.teid (big_endian_bytes 4 (unwrap_or v.teid 0))
    ∷ sent_if a.ipv4 (bytes_if v.ipv4)
    ∷ sent_if a.ipv6 (bytes_if v.ipv6)
    ∷ sent_if a.port (big_endian_bytes 2 (unwrap_or v.port 0))
    ∷ sent_if a.ctag (number_if 3 v.ctag)
    ∷ sent_if a.stag (number_if 3 v.stag)
    ∷ [])

-- ---- reading

-- the fields behind the first two bytes, in their order
abbrev pub fields_of : SentFields → List Wanted
fields_of a = wanted 6 a.teid 4 ∷ wanted 1 a.ipv4 4 ∷ wanted 2 a.ipv6 16 ∷ wanted 7 a.port 2 ∷ wanted 8 a.ctag 3 ∷ wanted 9 a.stag 3 ∷ []

-- no flags are forbidden
abbrev pub layout : Layout
layout = record { head = 2; rule = λ b. 0; fields = λ b. fields_of (asked (flags_of b)) }

-- how long the written form of a value that was read is at most, with every field; at least it is as long as the head
abbrev pub max_len : ℕ
max_len = 2 + 4 + 4 + 16 + 2 + 3 + 3

-- all of byte 0 is kept, byte 1 is ignored
abbrev pub kept_bits : List ℕ
kept_bits = 0xFF ∷ 0x00 ∷ []

-- the TEID of these bytes, absent where there are none
abbrev pub teid_of : List ℕ → Option Teid
teid_of bs = option_map (λ x. record { 0 = x }) (number_of 4 bs)

-- the record of a payload that has all the fields that these flags ask for, each directly behind the one before
unfoldable pub record_with : Flags → List ℕ → OuterHeaderCreation
record_with f s =
    let a = asked f in
    let ipv4_at = 2 + if_set a.teid 4 in
    let ipv6_at = ipv4_at + if_set a.ipv4 4 in
    let port_at = ipv6_at + if_set a.ipv6 16 in
    let ctag_at = port_at + if_set a.port 2 in
    let stag_at = ctag_at + if_set a.ctag 3 in
    record {
      description = f;
      teid = teid_of (field s 2 (if_set a.teid 4));
      ipv4_address = address_of 4 (field s ipv4_at (if_set a.ipv4 4));
      ipv6_address = address_of 16 (field s ipv6_at (if_set a.ipv6 16));
      port_number = number_of 2 (field s port_at (if_set a.port 2));
      ctag = number_of 4 (field s ctag_at (if_set a.ctag 3));
      stag = number_of 4 (field s stag_at (if_set a.stag 3));
    }

abbrev pub record_of : List ℕ → OuterHeaderCreation
record_of s = record_with (flags_of (get_or s 0 0)) s

-- a record of these parts, without tags
abbrev pub untagged : Flags → Option Teid → Option (List ℕ) → Option (List ℕ) → Option ℕ → OuterHeaderCreation
untagged f teid a4 a6 port =
    record { description = f; teid = teid; ipv4_address = a4; ipv6_address = a6; port_number = port; ctag = None; stag = None }

-- a record of these flags only
abbrev pub bare : Flags → OuterHeaderCreation
bare f = untagged f None None None None

-- a refused read: the empty record and used 0
unfoldable pub refused : Answer → Read OuterHeaderCreation
refused a = record { answer = a; used = 0; «record» = bare (flags_of 0x00) }

unfoldable pub found : List ℕ → Outcome → Read OuterHeaderCreation
found s (accepts n) = record { answer = Done; used = n; «record» = record_of s }
found s (refuses a) = refused a

-- what reading a payload answers
unfoldable pub read : List ℕ → Read OuterHeaderCreation
read s = found s (outcome layout s)

abbrev pub reader : Reader Value
reader = record { answer = λ s. (read s).answer; used = λ s. (read s).used; value = λ s. meaning (read s).«record» }

-- ---- the constructors

abbrev pub gtpu_ipv4 : Teid → List ℕ → OuterHeaderCreation
gtpu_ipv4 teid a = untagged (flags_of 0x01) (Some teid) (Some a) None None

abbrev pub gtpu_ipv6 : Teid → List ℕ → OuterHeaderCreation
gtpu_ipv6 teid a = untagged (flags_of 0x02) (Some teid) None (Some a) None

abbrev pub udp_ipv4 : List ℕ → ℕ → OuterHeaderCreation
udp_ipv4 a port = untagged (flags_of 0x04) None (Some a) None (Some port)

-- a record with other tags, and flags for them
abbrev pub with_tags : OuterHeaderCreation → Bool → Option ℕ → Bool → Option ℕ → OuterHeaderCreation
with_tags r cf c sf s =
    let f = r.description in
    record {
      description =
          record {
            gtpu_udp_ipv4 = f.gtpu_udp_ipv4;
            gtpu_udp_ipv6 = f.gtpu_udp_ipv6;
            udp_ipv4 = f.udp_ipv4;
            udp_ipv6 = f.udp_ipv6;
            ipv4 = f.ipv4;
            ipv6 = f.ipv6;
            ctag = cf;
            stag = sf;
          };
      teid = r.teid;
      ipv4_address = r.ipv4_address;
      ipv6_address = r.ipv6_address;
      port_number = r.port_number;
      ctag = c;
      stag = s;
    }

-- a tag sets its flag, and its low 24 bits count
abbrev pub with_ctag : OuterHeaderCreation → ℕ → OuterHeaderCreation
with_ctag r x = with_tags r true (Some (x % 2 ^ 24)) r.description.stag r.stag

abbrev pub with_stag : OuterHeaderCreation → ℕ → OuterHeaderCreation
with_stag r x = with_tags r r.description.ctag r.ctag true (Some (x % 2 ^ 24))
