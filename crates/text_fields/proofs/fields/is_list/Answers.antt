-- `text_fields::fields::is_list` meets its contract: by whether the list is empty, then field by field. The invariant is that of `entries_at`.
use native.Mathlib.Omega.{arith}
use mathlib.Core.Path.{sym, refl}
use Rattle.text_fields.proofs.Runs.{whole_end, stop, go_on, fail, full, grows, list_empty, list_run, list_short, list_broken}
use Rattle.text_fields.proofs.fields.is_list.Goals as goal

pub returns-then-is_empty : goal.returns-then-is_empty
returns-then-is_empty c = search list_empty

pub overflow_add-next : goal.overflow_add-next
overflow_add-next c = omega (arith, whole_end _ _ c.field_at.ensures (rw c.in-Ok-Some.field-0-is at c.in-Ok-Some.is))

pub loop-preserved : goal.loop-preserved
loop-preserved c = go_on _ _ _ _ c.loop-test.true c.loop.invariant c.field_at.ensures (rw c.in-Ok-Some.field-0-is at c.in-Ok-Some.is)

pub returns-in-Ok-None : goal.returns-in-Ok-None
returns-in-Ok-None c =
    list_short _ _ _ c.is_empty.ensures c.if-is_empty.false _ _ c.loop-test.true
    (stop _ _ _ _ c.loop-test.true c.loop.invariant c.field_at.ensures (rw c.in-Ok-None.field-0-is at c.in-Ok-None.is))

pub returns-in-Err : goal.returns-in-Err
returns-in-Err c =
    list_broken _ _ _ c.is_empty.ensures c.if-is_empty.false _
    (fail _ _ _ _ c.loop-test.true c.loop.invariant c.field_at.ensures c.in-Err.is)

pub overflow_sub-result : goal.overflow_sub-result
overflow_sub-result c = omega (arith, grows _ _ _ _ (sym (full _ _ _ _ c.loop-test.false c.loop.invariant)))

pub returns : goal.returns
returns c =
    list_run _ _ _ c.is_empty.ensures c.if-is_empty.false _ _ _ c.loop.auto.counter-end c.loop-test.false (full _ _ _ _ c.loop-test.false c.loop.invariant) refl
