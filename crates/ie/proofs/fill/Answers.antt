-- `ie::fill` meets its contract. The invariant: the rows stored and those from `at` on come to all rows.
use native.Mathlib.Omega.{arith}
use Rattle.ie.proofs.Tables.{starts, is_whole, fill_end, fill_bounds, fill_step}
use Rattle.ie.proofs.fill.Goals as goal

pub loop-row-init : goal.loop-row-init
loop-row-init c = (omega arith, λ zs h. starts zs _ _ h)

pub record_of-ie-requires : goal.record_of-ie-requires
record_of-ie-requires c =
    let good = c.requires.good in
    is_whole _ _ _ _ _ (c.loop-row.invariant.1 good.0 good.1) c.loop-row.auto.rows c.loop-row-test.true

pub row-requires : goal.row-requires
row-requires c =
    let good = c.requires.good in
    let w = fill_bounds _ _ _ _ _ (c.loop-row.invariant.1 good.0 good.1) c.loop-row.auto.rows c.loop-row-test.true c.record_of-ie.ensures in
    record { place_bound = omega (arith, w, c.requires.body_len_bound); len_bound = omega (arith, w, c.requires.body_len_bound) }

pub loop-row-preserved : goal.loop-row-preserved
loop-row-preserved c =
    let good = c.requires.good in
    let w = fill_bounds _ _ _ _ _ (c.loop-row.invariant.1 good.0 good.1) c.loop-row.auto.rows c.loop-row-test.true c.record_of-ie.ensures in
    (w, λ zs h. fill_step _ _ _ _ _ (c.loop-row.invariant.1 zs h) c.loop-row.auto.rows c.loop-row-test.true c.record_of-ie.ensures c.row.ensures)

pub returns : goal.returns
returns c = λ zs h. fill_end _ _ _ _ _ (c.loop-row.invariant.1 zs h) c.loop-row.auto.rows c.loop-row-test.false
