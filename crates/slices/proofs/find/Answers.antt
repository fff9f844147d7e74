use Rattle.std.proofs.Common.{arith}
use Rattle.slices.proofs.Laws.{index_here, index_next, index_none}
use Rattle.slices.proofs.find.Goals as goal

pub returns-then-s-at-clause-value : goal.returns-then-s-at-clause-value
returns-then-s-at-clause-value c =
    omega (arith, index_here c.args.b c.loop-at.at c.args.to c.args.s.now (omega arith) (omega arith) c.if-s-at.true)

pub loop-at-preserved : goal.loop-at-preserved
loop-at-preserved c =
    omega (arith, index_next c.args.b c.loop-at.at c.args.to c.args.s.now (omega arith) (omega arith) c.if-s-at.false)

pub returns-clause-value : goal.returns-clause-value
returns-clause-value c = omega (arith, index_none c.args.b c.loop-at.at c.args.to c.args.s.now (omega arith) (omega arith))
