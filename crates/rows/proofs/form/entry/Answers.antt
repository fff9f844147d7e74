-- `rows::form::entry` meets its contract: a piece, and those of the text behind it.
use Rattle.rows.proofs.Laws.{some_more}
use Rattle.rows.proofs.form.entry.Goals as goal

pub returns : goal.returns
returns c = some_more _ _ _ _ _ _ _ _ c.byte-end.ensures c.text.ensures
