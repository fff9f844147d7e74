-- `rows::line_end` meets its contract: behind the end, and no further than the words.
use native.Mathlib.Omega.{arith}
use Rattle.rows.proofs.Laws.{line_end}
use Rattle.rows.proofs.line_end.Goals as goal

pub returns : goal.returns
returns c =
    let s = c.args in
    record { value = line_end s.words.now s.from _ _ _ (omega arith) c.find.ensures.value c.saturating_add.ensures c.min.ensures; upper_bound = omega (arith, c.min.ensures) }
