-- `details::refusals::put_unmade` meets its contract: two numbers.
use Rattle.details.specs.Ascii.{ascii}
use Rattle.details.proofs.Laws.{unmade_put}
use Rattle.details.proofs.refusals.put_unmade.Goals as goal

pub returns : goal.returns
unfolding ascii
returns c =
    unmade_put _ _ _ _ _ _ _ _ _ c.number.ensures c.values-values.ensures c.count.ensures c.count-2.ensures c.put.ensures
