-- `ie::count` meets its contract. The invariant: the IEs passed and those from `place` on come to the whole.
use Prim.Native.Nat.{◌+◌, ◌≤◌}
use mathlib.Core.Path.{◌≡◌}
use borrow.Author.Rules.{rules}
use native.Mathlib.Omega.{arith}
use lib.ListN.{length}
use Rattle.std.proofs.lemmas.Result.{err_from_is_err_and, MatchResult-at_err}
use Rattle.ie.proofs.Walks.{passed, count_end, count_stop, count_step, mapped_ok, mapped_err}
use Rattle.ie.proofs.count.Goals as goal

pub returns-in_err-end : goal.returns-in_err-end
returns-in_err-end c =
    let x = c.args in
    let p = err_from_is_err_and c.from_residual.result c.from_residual.ensures.1 in
    let o = mapped_err c.end_of.result c.map_err.ensures.variant c.in_err-end.was in
    let told = err_from_is_err_and c.map_err.result (MatchResult-at_err _ _ o.0 o.1 c.map_err.ensures.cases) in
    let w = told.2 in
    let y : c.in_err-end.field-0.0 ≡ told.0 = search rules in
    let z : told.0 ≡ record { place = c.loop-place.place; answer = o.0 } = search (rules, w) in
    rw (p.1, p.2, y, z) (count_stop x.zero_types.now x.body.now c.loop-place.place c.loop-place.rows c.loop-place.invariant.2 (omega (arith, c.loop-place-test.true)) c.end_of.ensures o.1)

-- the IE at `place` ends inside
ends : (c : goal.In_ok-end) → (4 ≤ c.in_ok-end.end) × (c.loop-place.place + c.in_ok-end.end ≤ length c.args.body.now)
ends c =
    let x = c.args in
    let o = mapped_ok _ _ c.map_err.ensures.cases c.in_ok-end.was in
    passed x.zero_types.now x.body.now c.loop-place.place c.loop-place.rows c.loop-place.invariant.2 (omega (arith, c.loop-place-test.true)) c.end_of.ensures o

pub overflow_add-place : goal.overflow_add-place
overflow_add-place c = omega (arith, ends c)

pub loop-place-smaller : goal.loop-place-smaller
loop-place-smaller c = omega (arith, ends c)

pub loop-place-preserved : goal.loop-place-preserved
loop-place-preserved c =
    let x = c.args in
    let o = mapped_ok _ _ c.map_err.ensures.cases c.in_ok-end.was in
    (omega (arith, ends c), omega (arith, ends c, c.loop-place.invariant.1), count_step x.zero_types.now x.body.now c.loop-place.place c.loop-place.rows c.loop-place.invariant.2 (omega (arith, c.loop-place-test.true)) c.end_of.ensures o)

pub returns : goal.returns
returns c = count_end _ _ c.loop-place.place c.loop-place.rows c.loop-place.invariant.2 c.loop-place-test.false
