-- Each answer's number and values, as document 01's table lists them and the requests behind it (10 is K1's, the second value of 4 is K2's, 11 is K3's), and
-- what a write answers.
use Rattle.std.specs.Prelude.{ℕ, Bool, true, false, leb}
use Rattle.answer.specs.declared.Answer.{Answer}
use Rattle.answer.specs.declared.Answer.TheVariants.{Done, Short, Flags, NodeType, NotUtf8, InputTooLong, BadText, OutputTooLong, NoRoom, Unbuilt, NoSequenceNumber, ZeroLength}
use Rattle.answer.specs.declared.Values.{Values}
use Rattle.answer.specs.declared.Written.{Written}

-- the number
abbrev pub number_of : Answer → ℕ
number_of Done = 0
number_of (Short field expected actual) = 1
number_of (Flags byte rule) = 2
number_of (NodeType byte) = 3
number_of (NotUtf8 place bad) = 4
number_of (InputTooLong length) = 5
number_of (BadText field) = 6
number_of OutputTooLong = 7
number_of (NoRoom needed) = 8
number_of (Unbuilt rule) = 9
number_of NoSequenceNumber = 10
number_of ZeroLength = 11

-- what is returned with it; what the table doesn't name is 0
abbrev pub values_of : Answer → Values
values_of Done = (0, 0, 0)
values_of (Short field expected actual) = (field, expected, actual)
values_of (Flags byte rule) = (byte, rule, 0)
values_of (NodeType byte) = (byte, 0, 0)
values_of (NotUtf8 place bad) = (place, bad, 0)
values_of (InputTooLong length) = (length, 0, 0)
values_of (BadText field) = (field, 0, 0)
values_of OutputTooLong = (0, 0, 0)
values_of (NoRoom needed) = (needed, 0, 0)
values_of (Unbuilt rule) = (rule, 0, 0)
values_of NoSequenceNumber = (0, 0, 0)
values_of ZeroLength = (0, 0, 0)

-- what writing n bytes answers, by whether the output has room for them
abbrev pub wrote : Bool → ℕ → Written
wrote true n = record { answer = Done; len = n }
wrote false n = record { answer = NoRoom n; len = 0 }

-- what writing n bytes into an output of m answers
abbrev pub written : ℕ → ℕ → Written
written n m = wrote (leb n m) n
