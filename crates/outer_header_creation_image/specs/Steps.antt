-- Steps of the writer. Nothing here is the paper's: promises of private functions and proofs cite it.
use Rattle.std.specs.Prelude.{ℕ, Bool, ◌&&◌, List}
use Rattle.octets.specs.Octets.{bit, if_set, field, address_of, bytes_if}
use Rattle.outer_header_creation.specs.declared.SentFields.{SentFields}
use Rattle.outer_header_creation.specs.OuterHeaderCreation.{flags_of, asked}

-- the fields that are written, by the flags and the fields given: those that the flags ask for, an address or a tag only where it is given
abbrev pub sends_by : ℕ → ℕ → SentFields
sends_by flags given =
    let a = asked (flags_of flags) in
    record {
      teid = a.teid;
      ipv4 = a.ipv4 && bit 0 given;
      ipv6 = a.ipv6 && bit 1 given;
      port = a.port;
      ctag = a.ctag && bit 4 given;
      stag = a.stag && bit 5 given;
    }

-- the n bytes of an address that stands in an image, none where it isn't sent
unfoldable pub address_sent : ℕ → List ℕ → ℕ → Bool → List ℕ
address_sent n m at sent = bytes_if (address_of n (field m at (if_set sent n)))
