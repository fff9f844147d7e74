use native.Mathlib.Omega.{arith}
use borrow.Author.Tests.{eq-eqb, ne_eqb}
use Rattle.text.proofs.bad_of.Goals as goal

pub returns-then-most-left : goal.returns-then-most-left
returns-then-most-left c = rw (eq-eqb _ _ c.if-most-left.true)

pub returns : goal.returns
returns c = rw (ne_eqb _ _ c.if-most-left.false) (omega arith)
