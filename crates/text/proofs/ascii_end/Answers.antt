use native.Mathlib.Omega.{arith}
use Rattle.text.proofs.Laws.{passed_on, passed_run}
use Rattle.text.proofs.ascii_end.Goals as goal

pub loop-at-smaller : goal.loop-at-smaller
loop-at-smaller c =
    omega (arith, (c.ascii_at.ensures c.loop-at-test.true).inside)

pub loop-at-preserved : goal.loop-at-preserved
loop-at-preserved c =
    let l = c.before.before in
    let block = c.ascii_at.ensures c.loop-at-test.true in
    passed_on l.loop-at.invariant (passed_run _ _ _ l.loop-at.at block (omega arith) (omega arith))
