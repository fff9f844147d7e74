use native.Mathlib.Omega.{arith}
use Rattle.text.proofs.Laws.{passed_none, passed_on, passed_whole, good_none, ended}
use Rattle.text.proofs.walk.Goals as goal

pub loop-n-init : goal.loop-n-init
loop-n-init c = passed_none _ _ c.requires

pub loop-n-preserved : goal.loop-n-preserved
loop-n-preserved c =
    passed_on c.loop-n.invariant (passed_whole c.args.text.now c.loop-n.at c.in-Some.n c.in-Some.ensures.2 (omega (arith, c.in-Some.ensures.0, c.in-Some.ensures.1)))

pub returns : goal.returns
returns c = ended _ _ _ c.loop-n.invariant (good_none _ c.in_default.ensures)
