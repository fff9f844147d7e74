use Rattle.text.specs.Utf8.{rows}
use Rattle.text.proofs.Table.{row_of_table}
use Rattle.text.proofs.row_of.Goals as goal

pub returns : goal.returns
unfolding rows
returns c = search row_of_table
