use Rattle.text.proofs.Laws.{checked_of}
use Rattle.text.proofs.examine.Goals as goal

pub returns : goal.returns
returns c = search checked_of
