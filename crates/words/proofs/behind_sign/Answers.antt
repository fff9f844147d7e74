-- `words::behind_sign` meets its contract: one behind where the sign is found.
use Rattle.words.proofs.Laws.{sign_found}
use Rattle.words.proofs.behind_sign.Goals as goal

pub returns : goal.returns
returns c = sign_found _ _ c.find.ensures.value
