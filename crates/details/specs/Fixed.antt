-- What the rows of records of fixed fields show: what was counted, the bytes at the front of the slice, then every field.
use Rattle.std.specs.Prelude.{ℕ, Bool, List, [], ◌∷◌}
use Rattle.octets.specs.Octets.{if_set}
use Rattle.rows.specs.declared.Value.{Value}
use Rattle.rows.specs.declared.Value.TheVariants.{Count, Part}
use Rattle.rows.specs.Values.{given, hex_value, ipv4_value, ipv6_value}
use Rattle.ue_ip_address.specs.declared.UeIpAddress.{UeIpAddress}
use Rattle.f_teid.specs.declared.Fteid.{Fteid}
use Rattle.fseid.specs.declared.Fseid.{Fseid}
use Rattle.header.specs.declared.Header.{Header}
use Rattle.outer_header_creation.specs.declared.OuterHeaderCreation.{OuterHeaderCreation}
use Rattle.outer_header_creation.specs.OuterHeaderCreation.{byte_of}

-- a flag as 1 or 0
abbrev pub flag_value : Bool → Value
flag_value f = Count (if_set f 1)

abbrev pub ue_ip_address_values : UeIpAddress → ℕ → ℕ → List Value
ue_ip_address_values u count len =
    Count count
    ∷ Part 0 len
    ∷ flag_value u.v6
    ∷ flag_value u.v4
    ∷ flag_value u.source_destination
    ∷ flag_value u.ipv6_prefix_delegation
    ∷ flag_value u.choose_ipv4
    ∷ flag_value u.choose_ipv6
    ∷ flag_value u.ipv6_prefix_length_present
    ∷ given ipv4_value u.ipv4_address
    ∷ given ipv6_value u.ipv6_address
    ∷ given (hex_value 1) u.ipv6_prefix_delegation_bits
    ∷ given (hex_value 1) u.ipv6_prefix_length
    ∷ []

abbrev pub f_teid_values : Fteid → ℕ → ℕ → List Value
f_teid_values t count len =
    Count count
    ∷ Part 0 len
    ∷ flag_value t.v4
    ∷ flag_value t.v6
    ∷ flag_value t.ch
    ∷ flag_value t.chid
    ∷ hex_value 4 t.teid.0
    ∷ given ipv4_value t.ipv4_address
    ∷ given ipv6_value t.ipv6_address
    ∷ hex_value 1 t.choose_id
    ∷ []

abbrev pub fseid_values : Fseid → ℕ → ℕ → List Value
fseid_values f count len =
    Count count
    ∷ Part 0 len
    ∷ flag_value f.v6
    ∷ flag_value f.v4
    ∷ hex_value 8 f.seid.0
    ∷ given ipv4_value f.ipv4_address
    ∷ given ipv6_value f.ipv6_address
    ∷ []

abbrev pub outer_header_creation_values : OuterHeaderCreation → ℕ → ℕ → List Value
outer_header_creation_values o count len =
    Count count
    ∷ Part 0 len
    ∷ hex_value 1 (byte_of o.description)
    ∷ given (λ t. hex_value 4 t.0) o.teid
    ∷ given ipv4_value o.ipv4_address
    ∷ given ipv6_value o.ipv6_address
    ∷ given (hex_value 2) o.port_number
    ∷ given (hex_value 4) o.ctag
    ∷ given (hex_value 4) o.stag
    ∷ []

abbrev pub header_values : Header → ℕ → ℕ → List Value
header_values h count len =
    Count count
    ∷ Part 0 len
    ∷ hex_value 1 h.version
    ∷ flag_value h.has_fo
    ∷ flag_value h.has_mp
    ∷ flag_value h.has_seid
    ∷ hex_value 1 h.message_type
    ∷ hex_value 2 h.length
    ∷ hex_value 8 h.seid.0
    ∷ hex_value 4 h.sequence_number.0
    ∷ hex_value 1 h.message_priority
    ∷ []
