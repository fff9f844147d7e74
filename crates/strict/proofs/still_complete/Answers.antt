-- `strict::still_complete` meets its contract: the two tests, joined.
use Rattle.strict.proofs.still_complete.Goals as goal

pub returns : goal.returns
returns c = rw (c.both.ensures, c.either.ensures, c.bit.ensures)
