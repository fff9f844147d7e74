-- What the row of a refusal shows: its words and its values.
use Rattle.std.specs.Prelude.{ℕ, ◌%◌, ◌||◌, List, [], ◌∷◌, ◌++◌, eqb}
use Rattle.answer.specs.declared.Answer.{Answer}
use Rattle.answer.specs.Paper.{number_of, values_of}
use Rattle.octets.specs.Octets.{pick}
use Rattle.rows.specs.declared.Value.{Value}
use Rattle.rows.specs.declared.Value.TheVariants.{Count}
use Rattle.rows.specs.Values.{hex_value}
use Rattle.rows.specs.Row.{pieces, numbered}
use Rattle.details.specs.Ascii.{ascii}

-- flags and a type are bytes
abbrev pub first_value : ℕ → ℕ → Value
first_value number x = pick (eqb number 2 || eqb number 3) (hex_value 1 (x % 256)) (Count x)

abbrev pub unread_values : Answer → List Value
unread_values a = first_value (number_of a) (values_of a).0 ∷ Count (values_of a).1 ∷ Count (values_of a).2 ∷ []

-- the words of payloads that are refused, by the number of the answer: a reader gives the first five
unfoldable pub unread_words : List ℕ
unread_words =
    ascii "0\n"
    ++ ascii "1 0 - | err=1 field=# exp=# act=#\n"
    ++ ascii "2 0 - | err=2 flags=# rule=#\n"
    ++ ascii "3 0 - | err=3 type=#\n"
    ++ ascii "4 0 - | err=4 place=# bad=#\n"
    ++ ascii "5 0 - | err=5 len=#\n"

-- the row of a payload that is refused
unfoldable pub unread_row : Answer → List (List ℕ)
unread_row a = pieces (numbered (number_of a) unread_words) (unread_values a) []

-- the row of a record that can't be made or written: the refusal's number and its first value
unfoldable pub unmade_row : Answer → List (List ℕ)
unmade_row a = pieces (ascii "# # -\n") (Count (number_of a) ∷ Count (values_of a).0 ∷ []) []
