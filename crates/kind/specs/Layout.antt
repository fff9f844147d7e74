-- Fields in a row, and a walk over them: the layouts of document 01 that have fixed fields, and that of a message header.
use Rattle.std.specs.Prelude.{ℕ, zero, suc, ◌+◌, Bool, List, [], ◌∷◌, length, get_or, leb}
use Rattle.std.specs.Int.Bits.{bit_and}
use Rattle.answer.specs.declared.Answer.{Answer}
use Rattle.answer.specs.declared.Answer.TheVariants.{Short, Flags, InputTooLong}
use Rattle.octets.specs.Octets.{pick, if_set}

-- a field: its number in document 01, whether it is sent, its width
pub data Wanted : Type 0 where
  wanted : ℕ → Bool → ℕ → Wanted

-- a layout: how many bytes come first (field 0); by the first byte, the rule that it breaks (0 for none) and the fields that follow
pub record Layout : Type 0 where
  pub head : ℕ
  pub rule : ℕ → ℕ
  pub fields : ℕ → List Wanted

-- what a layout makes of a payload: accepted up to a place, the used count, or refused
pub data Outcome : Type 0 where
  accepts : ℕ → Outcome
  refuses : Answer → Outcome

-- the fields from a place on, in a payload of n bytes. A field that isn't sent takes no byte, so that no walk stops there
unfoldable pub walk : ℕ → ℕ → List Wanted → Outcome
walk n at [] = accepts at
walk n at (wanted number sent width ∷ fs) =
    pick (leb (at + if_set sent width) n) (walk n (at + if_set sent width) fs) (refuses (Short number (at + if_set sent width) n))

-- a first byte that breaks a rule is refused with it
unfoldable pub unless_broken : ℕ → ℕ → Outcome → Outcome
unless_broken byte zero o = o
unless_broken byte (suc rule) o = refuses (Flags byte (suc rule))

-- the tests in their order: 5, the bytes that come first, the rules, the fields
unfoldable pub outcome : Layout → List ℕ → Outcome
outcome l s =
    let n = length s in
    let byte = get_or s 0 0 in
    pick (leb n 65535)
    (pick (leb l.head n) (unless_broken byte (l.rule byte) (walk n l.head (l.fields byte))) (refuses (Short 0 l.head n)))
    (refuses (InputTooLong n))

-- a payload with only some bits of its first bytes kept, those of a mask for each, and the others cleared
unfoldable pub clear : List ℕ → List ℕ → List ℕ
clear [] s = s
clear (m ∷ ms) [] = []
clear (m ∷ ms) (b ∷ s) = bit_and b m ∷ clear ms s
