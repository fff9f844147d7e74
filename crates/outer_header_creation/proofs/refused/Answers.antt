-- `outer_header_creation::refused` meets its contract.
use Rattle.outer_header_creation.specs.OuterHeaderCreation.{refused}
use Rattle.outer_header_creation.proofs.refused.Goals as goal

pub returns : goal.returns
unfolding refused
returns c = rw c.new.ensures at c.refused.ensures
