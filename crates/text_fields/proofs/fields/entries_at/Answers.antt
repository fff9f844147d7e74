-- `text_fields::fields::entries_at` meets its contract. The invariant: what is left to take from `next` on comes to what was to be taken from `at` on.
use Prim.Native.Nat.{ℕ}
use native.Mathlib.Omega.{arith}
use mathlib.Core.Path.{◌≡◌, ap, ◌∙◌}
use Rattle.std.proofs.lemmas.Result.{err_from_is_err_and}
use Rattle.text_fields.specs.Fields.{run}
use Rattle.text_fields.proofs.Runs.{whole_end, stop, go_on, fail, full}
use Rattle.text_fields.proofs.fields.entries_at.Goals as goal

pub returns-in_err-text : goal.returns-in_err-text
returns-in_err-text c =
    let p = err_from_is_err_and c.from_residual.result c.from_residual.ensures.1 in
    rw (p.1, p.2) (fail _ _ _ _ c.loop-count-test.true c.loop-count.invariant c.field_at.ensures c.in_err-text.was)

pub returns-in_default : goal.returns-in_default
returns-in_default c = stop _ _ _ _ c.loop-count-test.true c.loop-count.invariant c.field_at.ensures (rw c.in_default.is at c.in_ok-text.was)

pub overflow_add-next : goal.overflow_add-next
overflow_add-next c = omega (arith, whole_end _ _ c.field_at.ensures (rw c.in-Some.is at c.in_ok-text.was))

pub loop-count-preserved : goal.loop-count-preserved
loop-count-preserved c = go_on _ _ _ _ c.loop-count-test.true c.loop-count.invariant c.field_at.ensures (rw c.in-Some.is at c.in_ok-text.was)

pub returns : goal.returns
returns c =
    let all : c.args.most ≡ c.loop-count.count = omega (arith, c.loop-count.auto.count-end) in
    ap (λ (n : ℕ). run n c.loop-count.next) all ∙ full _ _ _ _ c.loop-count-test.false c.loop-count.invariant
