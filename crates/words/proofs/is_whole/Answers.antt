-- `words::is_whole` meets its contract: an even length, and half of it.
use mathlib.Core.Path.{◌∙◌}
use Rattle.words.proofs.Laws.{whole}
use Rattle.words.proofs.is_whole.Goals as goal

pub returns : goal.returns
returns c = c.both.ensures ∙ whole c.args.len c.args.count
