-- `text_fields::TextList::read` meets its contract: by the flag, then by the run that stands there.
use native.Mathlib.Omega.{arith}
use mathlib.Core.Path.{sym, ◌∙◌}
use Rattle.std.proofs.lemmas.Result.{err_from_is_err_and}
use Rattle.text_fields.proofs.Runs.{grows}
use Rattle.text_fields.proofs.Reading.{list_off, list_on}
use Rattle.text_fields.proofs.TextList.read.Goals as goal

pub returns-then-not-bit : goal.returns-then-not-bit
returns-then-not-bit c = search list_off

pub returns-in_err-run : goal.returns-in_err-run
returns-in_err-run c =
    let p = err_from_is_err_and c.from_residual.result c.from_residual.ensures.1 in
    rw (p.1, p.2) (list_on _ _ _ _ c.bit.ensures _ c.if-not-bit.false-raw _ _ _ c.most_of.ensures c.entries_at.ensures c.in_err-run.was)

pub overflow_sub-taken : goal.overflow_sub-taken
overflow_sub-taken c = omega (arith, grows _ _ _ _ (sym c.entries_at.ensures ∙ c.in_ok-run.was))

pub returns : goal.returns
returns c = list_on _ _ _ _ c.bit.ensures _ c.if-not-bit.false-raw _ _ _ c.most_of.ensures c.entries_at.ensures c.in_ok-run.was
