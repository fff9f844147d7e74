-- `header::refused` meets its contract.
use Rattle.header.specs.Header.{refused}
use Rattle.header.proofs.refused.Goals as goal

pub returns : goal.returns
unfolding refused
returns c = rw c.new.ensures at c.refused.ensures
