-- `details::refusals::put_unread` meets its contract: the row of the answer's number, with its values.
use Rattle.details.specs.Ascii.{ascii}
use Rattle.details.specs.Refusals.{unread_words}
use Rattle.details.proofs.Laws.{unread_put}
use Rattle.details.proofs.refusals.put_unread.Goals as goal

pub returns : goal.returns
unfolding unread_words ascii
returns c =
    unread_put _ _ _ _ _ _ _ _ c.number.ensures c.row-row.ensures c.unread.ensures c.put.ensures
