-- `lines::to_front` meets its contract.
use Rattle.std.proofs.Common.{◌∙◌}
use Rattle.lines.proofs.Laws.{moved}
use Rattle.lines.proofs.to_front.Goals as goal

pub returns-clause-buffer_after : goal.returns-clause-buffer_after
returns-clause-buffer_after c = c.copy_within.ensures.after ∙ moved _ _ _ _ _ c.min-start.ensures c.min-count.ensures
