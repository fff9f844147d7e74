-- `hex_text::digit_of` meets its contract: the table's rule is a test at each entry.
use Rattle.hex_text.specs.Hex.{digit}
use Rattle.hex_text.proofs.Table.{entry}
use borrow.Author.Rules.{rules}
use Rattle.hex_text.proofs.digit_of.Goals as goal

pub returns : goal.returns
unfolding digit
returns c = entry digit 16 c.args.n (search rules)
