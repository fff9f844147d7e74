-- What the steps on the way to a record answer: nothing here is the paper's.
use Rattle.std.specs.Prelude.{ℕ, suc, ◌+◌, List, leb, eqb, length, drop}
use Rattle.std.specs.Prelude.{Result, Ok, Err}
use Rattle.answer.specs.declared.Answer.{Answer}
use Rattle.answer.specs.declared.Answer.TheVariants.{Short, NotUtf8}
use Rattle.answer.specs.declared.Read.{Read}
use Rattle.octets.specs.Octets.{pick, field}
use Rattle.text.specs.Utf8.{good_len, checked}
use Rattle.texts.specs.declared.Text.{Text}
use Rattle.node_id.specs.declared.NodeId.{NodeId}
use Rattle.node_id.specs.NodeId.{accepted, refused}

-- the read of a record with its used count, or of a refusal
abbrev pub outcome : Result (NodeId × ℕ) Answer → Read NodeId
outcome (Ok p) = accepted p.1 p.0
outcome (Err a) = refused a

-- the address of so many bytes behind the type, or the refusal with its field
unfoldable pub address_behind : ℕ → ℕ → List ℕ → Result (List ℕ) Answer
address_behind number width s = pick (leb (suc width) (length s)) (Ok (field s 1 width)) (Err (Short number (suc width) (length s)))

-- the name behind the type, or the refusal
unfoldable pub name_behind : List ℕ → Result Text Answer
name_behind s =
    let text = drop 1 s in
    pick (eqb (1 + good_len text) (length s)) (Ok (record { place = 1; len = good_len text })) (Err (NotUtf8 (1 + good_len text) (checked text).bad))
