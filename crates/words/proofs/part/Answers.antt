-- `words::part` meets its contract: so many bytes as lie between the places.
use Rattle.words.proofs.part.Goals as goal

pub returns : goal.returns
returns c = rw (← c.saturating_sub.ensures) c.part.ensures
