-- What the case program prints for a line, as document 01 has it.
use Rattle.std.specs.Prelude.{ℕ, ◌*◌, List, [], ◌∷◌, ◌++◌, length, leb, eqb}
use Rattle.std.specs.Prelude.{Option, None, Some, option_and_then}
use Rattle.answer.specs.Paper.{number_of}
use Rattle.octets.specs.Octets.{pick}
use Rattle.kind.specs.Kind.{Reader}
use Rattle.ue_ip_address.specs.UeIpAddress as ue
use Rattle.f_teid.specs.Fteid as fteid
use Rattle.fseid.specs.Fseid as fseid
use Rattle.node_id.specs.NodeId as node_id
use Rattle.outer_header_creation.specs.OuterHeaderCreation as ohc
use Rattle.pfd_contents.specs.PfdContents as pfd
use Rattle.hex_text.specs.Hex.{spelled, pairs, decimal}

-- what is said of a payload: answer number, used count, and the written bytes, none where the read is refused
pub record Row : Type 0 where
  pub number : ℕ
  pub used : ℕ
  pub written : List ℕ

abbrev pub row : ℕ → ℕ → List ℕ → Row
row number used written = record { number = number; used = used; written = written }

-- a reader's answer to a payload, and the written form of the value where the read is done
unfoldable pub row_of : {Value : Type 0} → Reader Value → (Value → List ℕ) → List ℕ → Row
row_of r wire s = row (number_of (r.answer s)) (r.used s) (pick (eqb (number_of (r.answer s)) 0) (wire (r.value s)) [])

-- the rows of the kinds
abbrev pub row_u : List ℕ → Row
row_u s = row_of ue.reader ue.wire s

abbrev pub row_f : List ℕ → Row
row_f s = row_of fteid.reader fteid.wire s

abbrev pub row_s : List ℕ → Row
row_s s = row_of fseid.reader fseid.wire s

abbrev pub row_n : List ℕ → Row
row_n s = row_of node_id.reader node_id.wire s

abbrev pub row_o : List ℕ → Row
row_o s = row_of ohc.reader ohc.wire s

abbrev pub row_p : List ℕ → Row
row_p s = row_of pfd.reader pfd.wire s

-- and their letters: U, F, S, N, O, P. No other letter has a row
unfoldable pub row_for : ℕ → List ℕ → Option Row
row_for letter s =
    pick (eqb letter 0x55) (Some (row_u s))
    (pick (eqb letter 0x46) (Some (row_f s))
    (pick (eqb letter 0x53) (Some (row_s s))
    (pick (eqb letter 0x4E) (Some (row_n s))
    (pick (eqb letter 0x4F) (Some (row_o s))
    (pick (eqb letter 0x50) (Some (row_p s))
    None)))))

-- digit pairs, 4,096 at most, and nothing behind them
unfoldable pub all_pairs : List ℕ → Option (List ℕ)
all_pairs text = pick (eqb (2 * length (pairs 4096 text)) (length text)) (Some (pairs 4096 text)) None

-- the payload of a line's text: `-` for the empty one, else digit pairs, one at least
unfoldable pub payload : List ℕ → Option (List ℕ)
payload [] = None
payload (c ∷ []) = pick (eqb c 0x2D) (Some []) None
payload (c ∷ d ∷ text) = all_pairs (c ∷ d ∷ text)

-- the row of a line: kind letter, one space, text of the payload; no other line has one
unfoldable pub line_row : List ℕ → Option Row
line_row [] = None
line_row (letter ∷ []) = None
line_row (letter ∷ space ∷ text) = pick (eqb space 0x20) (option_and_then (row_for letter) (payload text)) None

-- bytes in hex, `-` for none
unfoldable pub hex_or_dash : List ℕ → List ℕ
hex_or_dash [] = 0x2D ∷ []
hex_or_dash (b ∷ bs) = spelled (b ∷ bs)

-- a row as it is printed, a space between its parts and 0A behind them; `? 0 -` where there is none
unfoldable pub shown : Option Row → List ℕ
shown (Some row) = decimal row.number ++ (0x20 ∷ (decimal row.used ++ (0x20 ∷ (hex_or_dash row.written ++ (0x0A ∷ [])))))
shown None = 0x3F ∷ 0x20 ∷ 0x30 ∷ 0x20 ∷ 0x2D ∷ 0x0A ∷ []

-- what is printed for a line, given without its 0A
unfoldable pub printed : List ℕ → List ℕ
printed line = shown (line_row line)

-- how many of n bytes an output of m takes: all, or none where they don't all fit
abbrev pub taken : ℕ → ℕ → ℕ
taken n m = pick (leb n m) n 0
