-- What is pending counts, and leaves room in the input; the output has room for a row.
use Rattle.std.proofs.Common.{length, ◌<◌, ◌≤◌}
use Rattle.lines.proofs.by_closure.answer_input.Given as goal

abbrev pub invariant-loop : goal.invariant-loop
invariant-loop g l = (l.pending ≤ l.longest) × (l.longest < length l.input) × (l.row ≤ length l.output)
