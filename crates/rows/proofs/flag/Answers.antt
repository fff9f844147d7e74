-- `rows::flag` meets its contract: the number that a flag is.
use Rattle.rows.proofs.flag.Goals as goal

pub returns : goal.returns
returns c = rw (← c.if_set.ensures.value) c.count.ensures
