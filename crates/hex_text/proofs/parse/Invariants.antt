use Prim.Native.Nat.{◌/◌, min}
use mathlib.Core.Path.{◌≡◌}
use lib.ListN.{length}
use Rattle.hex_text.proofs.Table.{tabled}
use Rattle.hex_text.proofs.Laws.{worth_or, Parsed}
use Rattle.hex_text.proofs.parse.Given as goal

abbrev pub invariant-loop-i : goal.invariant-loop-i
invariant-loop-i l = (l.worths ≡ tabled worth_or 0 256) × (l.n ≡ min (length l.initial.out) (length l.text / 2)) × Parsed l.text l.initial.out l.out l.i
