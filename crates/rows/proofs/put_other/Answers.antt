-- `rows::put_other` meets its contract.
use Rattle.rows.specs.Row.{other}
use Rattle.rows.proofs.Laws.{some_one}
use Rattle.rows.proofs.put_other.Goals as goal

pub returns : goal.returns
unfolding other
returns c = some_one _ _ _ _ _ c.words.ensures
