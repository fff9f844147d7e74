-- `rows::row` meets its contract. The invariant: so many rows further on from where it has come, the row stands that was asked for.
use Prim.Native.Nat.{◌+◌, ◌-◌}
use native.Mathlib.Omega.{arith}
use mathlib.Core.Path.{◌≡◌, refl, ◌∙◌}
use Rattle.rows.proofs.Laws.{numbered_more, numbered_last}
use Rattle.rows.proofs.row.Goals as goal

pub loop-init : goal.loop-init
loop-init c =
    let all : c.args.number - 0 ≡ c.args.number = omega arith in
    (omega arith, rw all refl)

pub loop-preserved : goal.loop-preserved
loop-preserved c =
    let l = c.loop in
    let n = c.args.number - l.counter in
    let less : c.args.number - (l.counter + 1) ≡ n - 1 = omega arith in
    (c.line_end-from.ensures.upper_bound, rw less (numbered_more _ l.from _ l.invariant.0 c.line_end-from.ensures.value n (omega arith)) ∙ l.invariant.1)

pub returns : goal.returns
returns c =
    let l = c.loop in
    numbered_last _ l.from _ l.invariant.0 c.line_end.ensures.value (c.args.number - l.counter) _ _ _ (omega arith) c.saturating_sub.ensures c.part.ensures l.invariant.1
