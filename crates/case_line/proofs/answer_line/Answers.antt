-- `case_line::answer_line` meets its contract: by whether the line has a row.
use native.Mathlib.Omega.{arith}
use Rattle.std.specs.Prelude.{None}
use Rattle.case_line.specs.Line.{shown}
use Rattle.case_line.proofs.Laws.{puts_line, shown_most, take_most}
use Rattle.case_line.proofs.answer_line.Goals as goal

pub returns-in-Some : goal.returns-in-Some
returns-in-Some c = puts_line _ _ _ _ _ (rw c.in-Some.is at c.row_of_line.ensures.bytes_after) (shown_most _ _ _ (omega arith) (omega arith) (take_most _ _ _ (rw c.in-Some.is at c.row_of_line.ensures.len_bound))) c.put_row.ensures

pub returns-in-None : goal.returns-in-None
unfolding shown
returns-in-None c = puts_line None _ _ _ _ (rw c.in-None.is at c.row_of_line.ensures.bytes_after) (omega arith) c.put_other.ensures
