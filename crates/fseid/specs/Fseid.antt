-- F-SEID, as document 01 has it.
use Rattle.std.specs.Prelude.{ℕ, ◌+◌, Bool, List, [], ◌∷◌, ◌++◌, get_or, Option, None, is_some}
use Rattle.answer.specs.declared.Answer.{Answer}
use Rattle.answer.specs.declared.Answer.TheVariants.{Done}
use Rattle.answer.specs.declared.Read.{Read}
use Rattle.types.specs.declared.Seid.{Seid}
use Rattle.octets.specs.Octets.{bit, if_set, flag_byte, field, big_endian, big_endian_bytes, bytes_if, address_of}
use Rattle.kind.specs.Layout.{wanted, Layout, Outcome, accepts, refuses, outcome}
use Rattle.kind.specs.Kind.{Reader}
use Rattle.fseid.specs.declared.Fseid.{Fseid}

-- what a record means
pub record Value : Type 0 where
  pub v4 : Bool
  pub v6 : Bool
  pub seid : ℕ
  pub ipv4 : Option (List ℕ)
  pub ipv6 : Option (List ℕ)

unfoldable pub meaning : Fseid → Value
meaning r = record { v4 = r.v4; v6 = r.v6; seid = r.seid.0; ipv4 = r.ipv4_address; ipv6 = r.ipv6_address }

-- the written form: flags (bit 0 V6, bit 1 V4), SEID, and the addresses that are given
unfoldable pub wire : Value → List ℕ
wire v = flag_byte (v.v6 ∷ v.v4 ∷ []) ∷ (big_endian_bytes 8 v.seid ++ (bytes_if v.ipv4 ++ bytes_if v.ipv6))

-- flags and SEID, 9 bytes, then IPv4 under bit 1, then IPv6 under bit 0; no flags are forbidden
abbrev pub layout : Layout
layout = record { head = 9; rule = λ b. 0; fields = λ b. wanted 1 (bit 1 b) 4 ∷ wanted 2 (bit 0 b) 16 ∷ [] }

-- how long the written form of a value that was read is at most, with both addresses; at least it is as long as the head
abbrev pub max_len : ℕ
max_len = 9 + 4 + 16

-- bits 2 to 7 of the flags are ignored: bits 0 and 1 of the first byte are kept
abbrev pub kept_bits : List ℕ
kept_bits = 0x03 ∷ []

-- the record of a payload that has all the fields
unfoldable pub record_of : List ℕ → Fseid
record_of s =
    let v4 = bit 1 (get_or s 0 0) in
    let v6 = bit 0 (get_or s 0 0) in
    record {
      v4 = v4;
      v6 = v6;
      seid = record { 0 = big_endian (field s 1 8) };
      ipv4_address = address_of 4 (field s 9 (if_set v4 4));
      ipv6_address = address_of 16 (field s (9 + if_set v4 4) (if_set v6 16));
    }

-- a new record: V4 and V6 from the addresses given
abbrev pub made : Seid → Option (List ℕ) → Option (List ℕ) → Fseid
made seid a4 a6 = record { v4 = is_some a4; v6 = is_some a6; seid = seid; ipv4_address = a4; ipv6_address = a6 }

-- flags false, the SEID 0, no addresses
abbrev pub empty : Fseid
empty = made (record { 0 = 0 }) None None

-- a refused read: the empty record and used 0
unfoldable pub refused : Answer → Read Fseid
refused a = record { answer = a; used = 0; «record» = empty }

unfoldable pub found : List ℕ → Outcome → Read Fseid
found s (accepts n) = record { answer = Done; used = n; «record» = record_of s }
found s (refuses a) = refused a

-- what reading a payload answers
unfoldable pub read : List ℕ → Read Fseid
read s = found s (outcome layout s)

abbrev pub reader : Reader Value
reader = record { answer = λ s. (read s).answer; used = λ s. (read s).used; value = λ s. meaning (read s).«record» }
