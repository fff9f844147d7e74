-- The next end of a line isn't before its start, and what is ready ends within the output. The measure is what is left of the input behind
-- the start of a line.
use Rattle.std.proofs.Common.{length, ◌-◌, ◌≤◌}
use Rattle.lines.proofs.by_closure.answer_ended.Given as goal

abbrev pub invariant-loop-at : goal.invariant-loop-at
invariant-loop-at g l = (l.start ≤ l.at) × (l.at ≤ length l.input) × (l.ready ≤ length l.output) × (l.row ≤ length l.output)

abbrev pub decreases-loop-at : goal.decreases-loop-at
decreases-loop-at g l = length l.input - l.start
