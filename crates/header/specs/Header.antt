-- Message headers, as request K1 has them.
use Rattle.std.specs.Prelude.{ℕ, ◌+◌, Bool, false, List, [], ◌∷◌, ◌++◌, get_or}
use Rattle.answer.specs.declared.Answer.{Answer}
use Rattle.answer.specs.declared.Answer.TheVariants.{Done}
use Rattle.answer.specs.declared.Read.{Read}
use Rattle.types.specs.declared.Seid.{Seid}
use Rattle.types.specs.declared.SequenceNumber.{SequenceNumber}
use Rattle.octets.specs.Octets.{bit, if_set, flag_byte, field, big_endian, big_endian_bytes, number_if, presence}
use Rattle.kind.specs.Layout.{wanted, Layout, Outcome, accepts, refuses, outcome}
use Rattle.kind.specs.Kind.{Reader}
use Rattle.header.specs.declared.Header.{Header}

-- the first byte: bit 0 SEID, 1 MP, 2 FO, 5 to 7 the version's low three bits; bits 3 and 4 are 0
abbrev pub first_of : Header → ℕ
first_of h =
    let v = h.version in
    flag_byte (h.has_seid ∷ h.has_mp ∷ h.has_fo ∷ false ∷ false ∷ bit 0 v ∷ bit 1 v ∷ bit 2 v ∷ [])

-- the written form: first byte, type, length, the SEID under its bit, the low 24 bits of the sequence number, the priority byte
unfoldable pub wire : Header → List ℕ
wire h =
    first_of h
    ∷ h.message_type
    ∷ (big_endian_bytes 2 h.length
    ++ (number_if 8 (presence h.has_seid h.seid.0) ++ (big_endian_bytes 3 h.sequence_number.0 ++ (h.message_priority ∷ []))))

-- 8 bytes, and with the SEID bit 12, then 16; no flags are forbidden
abbrev pub layout : Layout
layout = record { head = 8; rule = λ b. 0; fields = λ b. wanted 0 (bit 0 b) 4 ∷ wanted 0 (bit 0 b) 4 ∷ [] }

-- bits 3 and 4 of the first byte are ignored
abbrev pub kept_bits : List ℕ
kept_bits = 0xE7 ∷ []

-- where the sequence number stands, behind a SEID that is sent
abbrev pub place : Bool → ℕ
place sent = 4 + if_set sent 8

-- the record of a payload that has all the fields; a SEID that isn't sent is 0
unfoldable pub record_of : List ℕ → Header
record_of s =
    let b = get_or s 0 0 in
    let sent = bit 0 b in
    record {
      version = flag_byte (bit 5 b ∷ bit 6 b ∷ bit 7 b ∷ []);
      has_fo = bit 2 b;
      has_mp = bit 1 b;
      has_seid = sent;
      message_type = get_or s 1 0;
      length = big_endian (field s 2 2);
      seid = record { 0 = big_endian (field s 4 (if_set sent 8)) };
      sequence_number = record { 0 = big_endian (field s (place sent) 3) };
      message_priority = get_or s (place sent + 3) 0;
    }

-- the empty record
abbrev pub empty : Header
empty =
    record {
      version = 0;
      has_fo = false;
      has_mp = false;
      has_seid = false;
      message_type = 0;
      length = 0;
      seid = record { 0 = 0 };
      sequence_number = record { 0 = 0 };
      message_priority = 0;
    }

-- a refused read: the empty record and used 0
unfoldable pub refused : Answer → Read Header
refused a = record { answer = a; used = 0; «record» = empty }

unfoldable pub found : List ℕ → Outcome → Read Header
found s (accepts n) = record { answer = Done; used = n; «record» = record_of s }
found s (refuses a) = refused a

-- what reading a header answers
unfoldable pub read : List ℕ → Read Header
read s = found s (outcome layout s)

-- a record means itself: it has no texts and no absent fields
abbrev pub reader : Reader Header
reader = record { answer = λ s. (read s).answer; used = λ s. (read s).used; value = λ s. (read s).«record» }

-- a new record: version 1, FO, MP, length and priority 0
abbrev pub made : ℕ → Bool → Seid → SequenceNumber → Header
made type sent seid sequence =
    record {
      version = 1;
      has_fo = false;
      has_mp = false;
      has_seid = sent;
      message_type = type;
      length = 0;
      seid = seid;
      sequence_number = sequence;
      message_priority = 0;
    }
