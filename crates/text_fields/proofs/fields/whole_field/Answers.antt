-- `text_fields::fields::whole_field` meets its contract: by the length, then by the text.
use mathlib.Core.Path.{refl}
use native.Mathlib.Omega.{arith}
use Rattle.text_fields.proofs.Runs.{length_is, length_small, past, garbled, whole_there}
use Rattle.text_fields.proofs.fields.whole_field.Goals as goal

pub overflow_add-end : goal.overflow_add-end
overflow_add-end c =
    let a = c.args in
    omega (arith, length_small a.s.now a.at refl c.number-len.ensures.upper_bound)

pub returns-then-n-end : goal.returns-then-n-end
returns-then-n-end c =
    let a = c.args in
    past _ _ (length_is a.s.now a.at refl c.number-len.ensures.value) (omega arith) c.if-n-end.true

pub returns-then-good-len : goal.returns-then-good-len
returns-then-good-len c =
    let a = c.args in
    garbled _ _ (length_is a.s.now a.at refl c.number-len.ensures.value) (omega arith) c.well_formed-good.ensures.value (omega arith) c.if-good-len.true c.bad_length-bad.ensures

pub returns : goal.returns
returns c =
    let a = c.args in
    whole_there _ _ (length_is a.s.now a.at refl c.number-len.ensures.value) (omega arith) c.well_formed-good.ensures.value (omega arith) c.if-good-len.false
