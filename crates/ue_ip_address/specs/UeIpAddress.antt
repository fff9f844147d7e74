-- UE IP Address, as document 01 has it.
use Rattle.std.specs.Prelude.{ℕ, zero, suc, ◌+◌, Bool, false, not, ◌&&◌, ◌||◌, List, [], ◌∷◌, ◌++◌, get_or}
use Rattle.std.specs.Prelude.{Option, None, Some, is_some}
use Rattle.answer.specs.declared.Answer.{Answer}
use Rattle.answer.specs.declared.Answer.TheVariants.{Done}
use Rattle.answer.specs.declared.Read.{Read}
use Rattle.octets.specs.Octets.{pick, bit, if_set, flag_byte, field, bytes_if, number_if, address_of, number_of}
use Rattle.kind.specs.Layout.{wanted, Layout, Outcome, accepts, refuses, outcome}
use Rattle.kind.specs.Kind.{Reader}
use Rattle.ue_ip_address.specs.declared.UeIpAddress.{UeIpAddress}

-- what a record means
pub record Value : Type 0 where
  pub v4 : Bool
  pub v6 : Bool
  pub sd : Bool
  pub ipv6d : Bool
  pub chv4 : Bool
  pub chv6 : Bool
  pub ip6pl : Bool
  pub ipv4 : Option (List ℕ)
  pub ipv6 : Option (List ℕ)
  pub delegation_bits : Option ℕ
  pub prefix_length : Option ℕ

unfoldable pub meaning : UeIpAddress → Value
meaning r =
    record {
      v4 = r.v4;
      v6 = r.v6;
      sd = r.source_destination;
      ipv6d = r.ipv6_prefix_delegation;
      chv4 = r.choose_ipv4;
      chv6 = r.choose_ipv6;
      ip6pl = r.ipv6_prefix_length_present;
      ipv4 = r.ipv4_address;
      ipv6 = r.ipv6_address;
      delegation_bits = r.ipv6_prefix_delegation_bits;
      prefix_length = r.ipv6_prefix_length;
    }

-- the written form: flags (bit 0 V6, 1 V4, 2 S/D, 3 IPv6D, 4 CHV4, 5 CHV6, 6 IP6PL), then the fields that are given
unfoldable pub wire : Value → List ℕ
wire v =
    flag_byte (v.v6 ∷ v.v4 ∷ v.sd ∷ v.ipv6d ∷ v.chv4 ∷ v.chv6 ∷ v.ip6pl ∷ [])
    ∷ (bytes_if v.ipv4 ++ (bytes_if v.ipv6 ++ (number_if 1 v.delegation_bits ++ number_if 1 v.prefix_length)))

-- the rules that a first byte can break. Rule 1: V4 with CHV4, or V6 with CHV6
abbrev pub breaks_rule1 : ℕ → Bool
breaks_rule1 b = bit 1 b && bit 4 b || bit 0 b && bit 5 b

-- rule 2: IPv6D with IP6PL
abbrev pub breaks_rule2 : ℕ → Bool
breaks_rule2 b = bit 3 b && bit 6 b

-- rule 3: either of these without V6 or CHV6
abbrev pub breaks_rule3 : ℕ → Bool
breaks_rule3 b = (bit 3 b || bit 6 b) && not (bit 0 b || bit 5 b)

-- the first that it breaks, 0 for none
unfoldable pub broken_rule : ℕ → ℕ
broken_rule b = pick (breaks_rule1 b) 1 (pick (breaks_rule2 b) 2 (pick (breaks_rule3 b) 3 0))

-- the same rule, by its number
unfoldable pub rule_of : ℕ → Option ℕ
rule_of zero = None
rule_of (suc n) = Some (suc n)

-- flags, one byte, then IPv4 under V4, IPv6 under V6, one byte under IPv6D, one byte under IP6PL
abbrev pub layout : Layout
layout =
    record {
      head = 1;
      rule = broken_rule;
      fields = λ b. wanted 1 (bit 1 b) 4 ∷ wanted 2 (bit 0 b) 16 ∷ wanted 3 (bit 3 b) 1 ∷ wanted 4 (bit 6 b) 1 ∷ [];
    }

-- how long the written form of a value that was read is at most, with both addresses and one byte more, since rule 2 forbids two; at
-- least it is as long as the head
abbrev pub max_len : ℕ
max_len = 1 + 4 + 16 + 1

-- bit 7 of the flags is ignored: bits 0 to 6 of the first byte are kept
abbrev pub kept_bits : List ℕ
kept_bits = 0x7F ∷ []

-- the record of a payload that has all the fields
unfoldable pub record_of : List ℕ → UeIpAddress
record_of s =
    let flag : ℕ → Bool = λ k. bit k (get_or s 0 0) in
    let end4 = 1 + if_set (flag 1) 4 in
    let end6 = end4 + if_set (flag 0) 16 in
    let end_bits = end6 + if_set (flag 3) 1 in
    record {
      v4 = flag 1;
      v6 = flag 0;
      source_destination = flag 2;
      ipv6_prefix_delegation = flag 3;
      choose_ipv4 = flag 4;
      choose_ipv6 = flag 5;
      ipv6_prefix_length_present = flag 6;
      ipv4_address = address_of 4 (field s 1 (if_set (flag 1) 4));
      ipv6_address = address_of 16 (field s end4 (if_set (flag 0) 16));
      ipv6_prefix_delegation_bits = number_of 1 (field s end6 (if_set (flag 3) 1));
      ipv6_prefix_length = number_of 1 (field s end_bits (if_set (flag 6) 1));
    }

-- a record with these flags and addresses, and nothing else
abbrev pub addresses_only : (v4 v6 chv4 chv6 : Bool) → Option (List ℕ) → Option (List ℕ) → UeIpAddress
addresses_only v4 v6 chv4 chv6 a4 a6 =
    record {
      v4 = v4;
      v6 = v6;
      source_destination = false;
      ipv6_prefix_delegation = false;
      choose_ipv4 = chv4;
      choose_ipv6 = chv6;
      ipv6_prefix_length_present = false;
      ipv4_address = a4;
      ipv6_address = a6;
      ipv6_prefix_delegation_bits = None;
      ipv6_prefix_length = None;
    }

-- a new record: V4 and V6 from the addresses given
unfoldable pub made : Option (List ℕ) → Option (List ℕ) → UeIpAddress
made a4 a6 = addresses_only (is_some a4) (is_some a6) false false a4 a6

-- a record that leaves the choice to the user plane: CHV4 and CHV6, no address
unfoldable pub choosing : Bool → Bool → UeIpAddress
choosing ipv4 ipv6 = addresses_only false false ipv4 ipv6 None None

-- a refused read: the empty record and used 0
unfoldable pub refused : Answer → Read UeIpAddress
refused a = record { answer = a; used = 0; «record» = addresses_only false false false false None None }

unfoldable pub found : List ℕ → Outcome → Read UeIpAddress
found s (accepts n) = record { answer = Done; used = n; «record» = record_of s }
found s (refuses a) = refused a

-- what reading a payload answers
unfoldable pub read : List ℕ → Read UeIpAddress
read s = found s (outcome layout s)

abbrev pub reader : Reader Value
reader = record { answer = λ s. (read s).answer; used = λ s. (read s).used; value = λ s. meaning (read s).«record» }
