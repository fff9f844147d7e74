-- What a write answers and stores, after the tests that come before room: none, or a refusal.
use Rattle.std.specs.Prelude.{ℕ, List, leb, length}
use Rattle.std.specs.Prelude.{Option, None, Some}
use Rattle.answer.specs.declared.Answer.{Answer}
use Rattle.answer.specs.declared.Answer.TheVariants.{InputTooLong, OutputTooLong}
use Rattle.answer.specs.declared.Written.{Written}
use Rattle.answer.specs.Paper.{written}
use Rattle.octets.specs.Octets.{pick, put}

-- the first of two tests that refuses
infixr 20 ◌then◌
unfoldable pub ◌then◌ : Option Answer → Option Answer → Option Answer
None then b = b
Some a then b = Some a

-- 5 for a lent slice of n bytes, 7 for a written form of n bytes
abbrev pub too_long_input : ℕ → Option Answer
too_long_input n = pick (leb n 65535) None (Some (InputTooLong n))

abbrev pub too_long_output : ℕ → Option Answer
too_long_output n = pick (leb n 65535) None (Some OutputTooLong)

-- the answer to writing these bytes into an output of m
unfoldable pub answered : Option Answer → List ℕ → ℕ → Written
answered None bytes m = written (length bytes) m
answered (Some a) bytes m = record { answer = a; len = 0 }

-- the output with these bytes at its start; as it was where the write is refused
unfoldable pub stored : Option Answer → List ℕ → List ℕ → List ℕ
stored None out bytes = put out 0 bytes
stored (Some a) out bytes = out
