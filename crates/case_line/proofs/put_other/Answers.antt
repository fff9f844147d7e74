-- `case_line::put_other` meets its contract: by whether the bytes fit.
use mathlib.Core.Path.{refl}
use Rattle.std.specs.Prelude.{None}
use Rattle.case_line.specs.Line.{shown}
use Rattle.case_line.proofs.Laws.{puts_none, puts_all}
use Rattle.case_line.proofs.put_other.Goals as goal

pub returns-then-out-lt6 : goal.returns-then-out-lt6
unfolding shown
returns-then-out-lt6 c = puts_none None _ c.if-out-lt6.true

pub returns : goal.returns
unfolding shown
returns c = puts_all None _ _ 6 refl c.if-out-lt6.false c.put_bytes.ensures
