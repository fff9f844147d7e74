-- `words::head` meets its contract: up to the first space.
use Rattle.words.proofs.Laws.{first_word}
use Rattle.words.proofs.head.Goals as goal

pub returns : goal.returns
returns c = first_word _ _ _ c.find.ensures.value c.find.ensures.within.1 c.part.ensures
