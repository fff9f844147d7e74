use mathlib.Core.Path.{sym, ◌∙◌}
use native.Mathlib.Omega.{arith}
use Rattle.text.specs.Utf8.{rows}
use Rattle.text.proofs.Table.{sequence_ascii, whole_row}
use Rattle.text.proofs.whole.Goals as goal

pub returns-then-four-lt128 : goal.returns-then-four-lt128
returns-then-four-lt128 c = (omega arith, omega arith, sequence_ascii c.args.four.now 0 (omega arith) c.if-four-lt128.true)

pub returns-then-agrees : goal.returns-then-agrees
unfolding rows
returns-then-agrees c = (omega arith, omega arith, whole_row 1 c.args.four.now (omega arith) (omega arith) (sym c.agrees.ensures ∙ c.if-agrees.true))

pub returns-then-agrees-2 : goal.returns-then-agrees-2
unfolding rows
returns-then-agrees-2 c = (omega arith, omega arith, whole_row 3 c.args.four.now (omega arith) (omega arith) (sym c.agrees-2.ensures ∙ c.if-agrees-2.true))

pub returns-then-agrees-3 : goal.returns-then-agrees-3
unfolding rows
returns-then-agrees-3 c = (omega arith, omega arith, whole_row 5 c.args.four.now (omega arith) (omega arith) (sym c.agrees-3.ensures ∙ c.if-agrees-3.true))

pub returns-then-agrees-4 : goal.returns-then-agrees-4
unfolding rows
returns-then-agrees-4 c = (omega arith, omega arith, whole_row 7 c.args.four.now (omega arith) (omega arith) (sym c.agrees-4.ensures ∙ c.if-agrees-4.true))

pub returns-then-agrees-5 : goal.returns-then-agrees-5
unfolding rows
returns-then-agrees-5 c = (omega arith, omega arith, whole_row 2 c.args.four.now (omega arith) (omega arith) (sym c.agrees-5.ensures ∙ c.if-agrees-5.true))

pub returns-then-agrees-6 : goal.returns-then-agrees-6
unfolding rows
returns-then-agrees-6 c = (omega arith, omega arith, whole_row 4 c.args.four.now (omega arith) (omega arith) (sym c.agrees-6.ensures ∙ c.if-agrees-6.true))

pub returns-then-agrees-7 : goal.returns-then-agrees-7
unfolding rows
returns-then-agrees-7 c = (omega arith, omega arith, whole_row 6 c.args.four.now (omega arith) (omega arith) (sym c.agrees-7.ensures ∙ c.if-agrees-7.true))

pub returns-then-agrees-8 : goal.returns-then-agrees-8
unfolding rows
returns-then-agrees-8 c = (omega arith, omega arith, whole_row 8 c.args.four.now (omega arith) (omega arith) (sym c.agrees-8.ensures ∙ c.if-agrees-8.true))
