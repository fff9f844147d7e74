-- `words::value` meets its contract: all behind the sign.
use Rattle.words.proofs.Laws.{behind_sign_law}
use Rattle.words.proofs.value.Goals as goal

pub returns : goal.returns
returns c = behind_sign_law _ _ _ c.behind_sign.ensures c.part.ensures
