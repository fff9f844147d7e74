-- F-TEID, as document 01 has it.
use Rattle.std.specs.Prelude.{ℕ, ◌+◌, Bool, true, false, ◌&&◌, List, [], ◌∷◌, ◌++◌, get_or, Option, None}
use Rattle.answer.specs.declared.Answer.{Answer}
use Rattle.answer.specs.declared.Answer.TheVariants.{Done}
use Rattle.answer.specs.declared.Read.{Read}
use Rattle.types.specs.declared.Teid.{Teid}
use Rattle.octets.specs.Octets.{pick, bit, if_set, flag_byte, field, big_endian, big_endian_bytes, bytes_if, number_if, presence, address_of}
use Rattle.kind.specs.Layout.{Wanted, wanted, Layout, Outcome, accepts, refuses, outcome}
use Rattle.kind.specs.Kind.{Reader}
use Rattle.f_teid.specs.declared.Fteid.{Fteid}

-- what a record means
pub record Value : Type 0 where
  pub v4 : Bool
  pub v6 : Bool
  pub ch : Bool
  pub chid : Bool
  pub teid : ℕ
  pub ipv4 : Option (List ℕ)
  pub ipv6 : Option (List ℕ)
  pub choose_id : ℕ

unfoldable pub meaning : Fteid → Value
meaning r =
    record {
      v4 = r.v4;
      v6 = r.v6;
      ch = r.ch;
      chid = r.chid;
      teid = r.teid.0;
      ipv4 = r.ipv4_address;
      ipv6 = r.ipv6_address;
      choose_id = r.choose_id;
    }

-- what is written behind the flags: with CH the choose ID if CHID, without CH the TEID and the addresses that are given
unfoldable pub tail : Value → List ℕ
tail v = pick v.ch (number_if 1 (presence v.chid v.choose_id)) (big_endian_bytes 4 v.teid ++ (bytes_if v.ipv4 ++ bytes_if v.ipv6))

-- the written form: flags (bit 0 V4, 1 V6, 2 CH, 3 CHID, which is written only with CH), and the tail
unfoldable pub wire : Value → List ℕ
wire v = flag_byte (v.v4 ∷ v.v6 ∷ v.ch ∷ (v.ch && v.chid) ∷ []) ∷ tail v

-- the fields behind the flags: with CH a choose ID under CHID, without CH the TEID, then IPv4 and IPv6 under their flags
abbrev pub fields : ℕ → List Wanted
fields b = pick (bit 2 b) (wanted 5 (bit 3 b) 1 ∷ []) (wanted 0 true 4 ∷ wanted 1 (bit 0 b) 4 ∷ wanted 2 (bit 1 b) 16 ∷ [])

-- rule 4: CHID without CH
abbrev pub rule : ℕ → ℕ
rule b = pick (bit 2 b) 0 (if_set (bit 3 b) 4)

abbrev pub layout : Layout
layout = record { head = 1; rule = rule; fields = fields }

-- how long the written form of a value that was read is at most, with a TEID and both addresses; at least it is as long as the head
abbrev pub max_len : ℕ
max_len = 1 + 4 + 4 + 16

-- bits 4 to 7 of the flags are ignored: bits 0 to 3 of the first byte are kept
abbrev pub kept_bits : List ℕ
kept_bits = 0x0F ∷ []

-- no TEID
abbrev pub no_teid : Teid
no_teid = record { 0 = 0 }

-- the record of a payload with CH: no TEID and no addresses
unfoldable pub chosen_record : List ℕ → Fteid
chosen_record s =
    let b = get_or s 0 0 in
    record {
      v4 = bit 0 b;
      v6 = bit 1 b;
      ch = bit 2 b;
      chid = bit 3 b;
      teid = no_teid;
      ipv4_address = None;
      ipv6_address = None;
      choose_id = big_endian (field s 1 (if_set (bit 3 b) 1));
    }

-- the record of a payload without CH, and so without CHID: no choose ID
unfoldable pub concrete_record : List ℕ → Fteid
concrete_record s =
    let b = get_or s 0 0 in
    record {
      v4 = bit 0 b;
      v6 = bit 1 b;
      ch = bit 2 b;
      chid = bit 3 b;
      teid = record { 0 = big_endian (field s 1 4) };
      ipv4_address = address_of 4 (field s 5 (if_set (bit 0 b) 4));
      ipv6_address = address_of 16 (field s (5 + if_set (bit 0 b) 4) (if_set (bit 1 b) 16));
      choose_id = 0;
    }

-- the record of a payload that has all the fields
abbrev pub record_of : List ℕ → Fteid
record_of s = pick (bit 2 (get_or s 0 0)) (chosen_record s) (concrete_record s)

-- a new record: CH, CHID and the choose ID off
abbrev pub made : Bool → Bool → Teid → Option (List ℕ) → Option (List ℕ) → Fteid
made v4 v6 teid a4 a6 =
    record {
      v4 = v4;
      v6 = v6;
      ch = false;
      chid = false;
      teid = teid;
      ipv4_address = a4;
      ipv6_address = a6;
      choose_id = 0;
    }

-- flags false, numbers 0, optional fields absent
abbrev pub empty : Fteid
empty = made false false no_teid None None

-- a refused read: the empty record and used 0
unfoldable pub refused : Answer → Read Fteid
refused a = record { answer = a; used = 0; «record» = empty }

unfoldable pub found : List ℕ → Outcome → Read Fteid
found s (accepts n) = record { answer = Done; used = n; «record» = record_of s }
found s (refuses a) = refused a

-- what reading a payload answers
unfoldable pub read : List ℕ → Read Fteid
read s = found s (outcome layout s)

abbrev pub reader : Reader Value
reader = record { answer = λ s. (read s).answer; used = λ s. (read s).used; value = λ s. meaning (read s).«record» }

-- with CH it has no TEID and no addresses; CHID is kept only with CH, the choose ID only with both
abbrev pub made_with_choose : Bool → Bool → Bool → Bool → Teid → Option (List ℕ) → Option (List ℕ) → ℕ → Fteid
made_with_choose v4 v6 ch chid teid a4 a6 id =
    record {
      v4 = v4;
      v6 = v6;
      ch = ch;
      chid = ch && chid;
      teid = pick ch no_teid teid;
      ipv4_address = pick ch None a4;
      ipv6_address = pick ch None a6;
      choose_id = pick (ch && chid) id 0;
    }

-- the ready-made records of a choice: of IPv4, of IPv6 or of both, and nothing else
abbrev pub of_choice : Bool → Bool → Fteid
of_choice v4 v6 = made_with_choose v4 v6 true false no_teid None None 0
