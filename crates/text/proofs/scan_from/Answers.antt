use borrow.Author.Rules.{rules}
use Rattle.text.proofs.Laws.{passed_none, passed_on, good_end, ended, ended_on}
use Rattle.text.proofs.scan_from.Goals as goal

pub loop-at-init : goal.loop-at-init
loop-at-init c = search (rules, passed_none)

pub returns-then-at-end : goal.returns-then-at-end
returns-then-at-end c =
    let s = c.before.before in
    ended_on _ _ _ _ (passed_on s.loop-at.invariant s.stride-at.ensures) c.walk.ensures

pub loop-at-preserved : goal.loop-at-preserved
loop-at-preserved c =
    let s = c.before.before in
    passed_on (passed_on s.loop-at.invariant s.stride-at.ensures) c.ascii_end-at.ensures

pub returns : goal.returns
returns c = ended _ _ _ c.loop-at.invariant (search good_end)
