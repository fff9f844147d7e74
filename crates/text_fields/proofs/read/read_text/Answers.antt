-- `text_fields::read::read_text` meets its contract: by the flag, then by the field that stands there.
use native.Mathlib.Omega.{arith}
use Rattle.std.proofs.lemmas.Result.{err_from_is_err_and}
use Rattle.text_fields.proofs.Runs.{whole_end}
use Rattle.text_fields.proofs.Reading.{text_off, text_on}
use Rattle.text_fields.proofs.read.read_text.Goals as goal

pub returns-then-not-bit : goal.returns-then-not-bit
returns-then-not-bit c = search text_off

pub returns-in_err-text : goal.returns-in_err-text
returns-in_err-text c = let p = err_from_is_err_and c.from_residual.result c.from_residual.ensures.1 in rw (p.1, p.2) (text_on _ _ _ _ c.bit.ensures c.if-not-bit.false-raw _ _ c.field_at.ensures c.in_err-text.was)

pub returns-in_default : goal.returns-in_default
returns-in_default c = text_on _ _ _ _ c.bit.ensures c.if-not-bit.false-raw _ _ c.field_at.ensures (rw c.in_default.is at c.in_ok-text.was)

pub overflow_add-result : goal.overflow_add-result
overflow_add-result c = omega (arith, whole_end _ _ c.field_at.ensures (rw c.in-Some.is at c.in_ok-text.was))

pub returns : goal.returns
returns c = text_on _ _ _ _ c.bit.ensures c.if-not-bit.false-raw _ _ c.field_at.ensures (rw c.in-Some.is at c.in_ok-text.was)
