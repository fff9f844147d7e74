-- `image::put_refused` meets its contract: zeros behind the head, then the head, are one put of the image.
use borrow.Author.Rules.{rules}
use Rattle.image.proofs.Laws.{refusal_not, refusal_put}
use Rattle.image.proofs.put_refused.Goals as goal

pub returns-then-out-size : goal.returns-then-out-size
returns-then-out-size c = record { value = search rules; out_after = search refusal_not }

pub returns : goal.returns
returns c = record { value = search rules; out_after = search refusal_put }
