-- The number so far, with the digits that are left, is the number of the text.
use Prim.Native.Nat.{◌^◌, ◌<◌}
use mathlib.Core.Path.{◌≡◌}
use lib.ListN.{drop}
use Rattle.words.specs.Words.{decimal_of}
use Rattle.words.proofs.Laws.{number_from}
use Rattle.words.proofs.decimal.Given as goal

abbrev pub invariant-loop-b : goal.invariant-loop-b
invariant-loop-b l = (l.n < 2 ^ 64) × (number_from l.n (drop l.b-index l.text) ≡ decimal_of l.text)
