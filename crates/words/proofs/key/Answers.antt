-- `words::key` meets its contract: up to the place behind the sign.
use Rattle.words.proofs.Laws.{up_to_sign}
use Rattle.words.proofs.key.Goals as goal

pub returns : goal.returns
returns c = up_to_sign _ _ _ c.behind_sign.ensures c.part.ensures
