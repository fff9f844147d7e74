-- Node ID, as document 01 has it.
use Rattle.std.specs.Prelude.{ℕ, zero, suc, ◌+◌, List, ◌∷◌, leb, eqb, length, get_or, drop}
use Rattle.std.specs.Prelude.{Option, None, Some}
use Rattle.answer.specs.declared.Answer.{Answer}
use Rattle.answer.specs.declared.Answer.TheVariants.{Done, Short, NodeType, NotUtf8, InputTooLong, BadText}
use Rattle.answer.specs.declared.Read.{Read}
use Rattle.octets.specs.Octets.{pick, field}
use Rattle.text.specs.Utf8.{good_len, checked}
use Rattle.texts.specs.Texts.{is_text, bytes_of_text}
use Rattle.kind.specs.Kind.{Reader}
use Rattle.kind.specs.Write.{◌then◌, too_long_input, too_long_output}
use Rattle.node_id.specs.declared.NodeId.{NodeId}
use Rattle.node_id.specs.declared.NodeId.TheVariants.{Ipv4, Ipv6, Fqdn}

-- what a record means: an address or the bytes of a name
pub data Value : Type 0 where
  ipv4 : List ℕ → Value
  ipv6 : List ℕ → Value
  fqdn : List ℕ → Value

unfoldable pub meaning : List ℕ → NodeId → Value
meaning texts (Ipv4 a) = ipv4 a
meaning texts (Ipv6 a) = ipv6 a
meaning texts (Fqdn name) = fqdn (bytes_of_text texts name)

-- the written form: the type, then all of it
unfoldable pub wire : Value → List ℕ
wire (ipv4 a) = 0 ∷ a
wire (ipv6 a) = 1 ∷ a
wire (fqdn t) = 2 ∷ t

-- the records of an address and of a name
abbrev pub of_ipv4 : List ℕ → NodeId
of_ipv4 a = Ipv4 a

abbrev pub of_ipv6 : List ℕ → NodeId
of_ipv6 a = Ipv6 a

abbrev pub named : ℕ → ℕ → NodeId
named place len = Fqdn (record { place = place; len = len })

-- a refused read: the empty name and used 0
unfoldable pub refused : Answer → Read NodeId
refused a = record { answer = a; used = 0; «record» = named 0 0 }

abbrev pub accepted : ℕ → NodeId → Read NodeId
accepted n r = record { answer = Done; used = n; «record» = r }

-- an address of so many bytes behind its type, or the refusal with its field
unfoldable pub read_address : ℕ → ℕ → (List ℕ → NodeId) → List ℕ → Read NodeId
read_address number width make s = pick (leb (suc width) (length s)) (accepted (suc width) (make (field s 1 width))) (refused (Short number (suc width) (length s)))

-- type 0 needs 5 bytes (field 1), type 1 needs 17 (field 2)
abbrev pub read_ipv4 : List ℕ → Read NodeId
read_ipv4 s = read_address 1 4 of_ipv4 s

abbrev pub read_ipv6 : List ℕ → Read NodeId
read_ipv6 s = read_address 2 16 of_ipv6 s

-- type 2: all that follows is UTF-8 text, perhaps empty; refusal 4 says where its good beginning ends, and how many bytes there are bad
unfoldable pub read_fqdn : List ℕ → Read NodeId
read_fqdn s =
    let text = drop 1 s in
    pick (eqb (1 + good_len text) (length s)) (accepted (length s) (named 1 (good_len text))) (refused (NotUtf8 (1 + good_len text) (checked text).bad))

unfoldable pub by_type : ℕ → List ℕ → Read NodeId
by_type zero s = read_ipv4 s
by_type (suc zero) s = read_ipv6 s
by_type (suc (suc zero)) s = read_fqdn s
by_type (suc (suc (suc b))) s = refused (NodeType (suc (suc (suc b))))

unfoldable pub read : List ℕ → Read NodeId
read s = pick (leb (length s) 65535) (pick (leb 1 (length s)) (by_type (get_or s 0 0) s) (refused (Short 0 1 (length s)))) (refused (InputTooLong (length s)))

abbrev pub reader : Reader Value
reader = record { answer = λ s. (read s).answer; used = λ s. (read s).used; value = λ s. meaning s (read s).«record» }

-- 6 for a name that can't exist
unfoldable pub textual : List ℕ → NodeId → Option Answer
textual texts (Ipv4 a) = None
textual texts (Ipv6 a) = None
textual texts (Fqdn name) = pick (is_text texts name) None (Some (BadText 10))

-- what is tested before room: 5, 6, 7
unfoldable pub write_refusal : List ℕ → NodeId → Option Answer
write_refusal texts r = too_long_input (length texts) then textual texts r then too_long_output (length (wire (meaning texts r)))
