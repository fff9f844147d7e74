-- `rows::form::signed` meets its contract: two pieces, one behind the other.
use Rattle.rows.proofs.Laws.{some_one, some_more}
use Rattle.rows.proofs.form.signed.Goals as goal

pub returns : goal.returns
returns c = some_more _ _ _ _ _ _ _ _ c.byte-end.ensures (some_one _ _ _ _ _ c.decimal.ensures)
