-- `rows::form::text` meets its contract: three pieces, one behind the other.
use Rattle.rows.specs.Row.{quoted}
use Rattle.rows.proofs.Laws.{some_one, some_more}
use Rattle.rows.proofs.form.text.Goals as goal

pub returns : goal.returns
unfolding quoted
returns c = some_more _ _ _ _ _ _ _ _ c.byte-end.ensures (some_more _ _ _ _ _ _ _ _ c.digits-end.ensures (some_one _ _ _ _ _ c.byte.ensures))
