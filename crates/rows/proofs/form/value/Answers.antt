-- `rows::form::value` meets its contract: by the form.
use mathlib.Core.Path.{refl}
use Rattle.rows.specs.Row.{shown, ends, puts}
use Rattle.rows.proofs.Laws.{some_one, some_spelled, some_quoted}
use Rattle.rows.proofs.form.value.Goals as goal

pub returns-in-Absent : goal.returns-in-Absent
unfolding shown
returns-in-Absent c = rw c.in-Absent.is (some_one _ _ _ _ _ c.words.ensures)

pub returns-in-Nothing : goal.returns-in-Nothing
unfolding shown ends puts
returns-in-Nothing c = rw c.in-Nothing.is (record { value = refl; out_after = refl })

pub returns-in-Count : goal.returns-in-Count
unfolding shown
returns-in-Count c = rw c.in-Count.is (some_one _ _ _ _ _ c.decimal.ensures)

pub returns-in-Signed : goal.returns-in-Signed
unfolding shown
returns-in-Signed c = rw c.in-Signed.is c.signed.ensures

pub returns-in-Hex : goal.returns-in-Hex
unfolding shown
returns-in-Hex c = rw c.in-Hex.is (some_one _ _ _ _ _ c.number.ensures)

pub returns-in-Part : goal.returns-in-Part
unfolding shown
returns-in-Part c = rw c.in-Part.is (some_spelled _ _ _ _ _ _ c.part.ensures c.digits.ensures)

pub returns-in-Quoted : goal.returns-in-Quoted
unfolding shown
returns-in-Quoted c = rw c.in-Quoted.is (some_quoted _ _ _ _ _ _ c.part-in-Quoted.ensures c.text.ensures)

pub returns-in-Listed : goal.returns-in-Listed
unfolding shown
returns-in-Listed c = rw c.in-Listed.is c.list.ensures
