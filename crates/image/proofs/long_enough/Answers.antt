use borrow.Author.Tests.{le-leb, lt-leb}
use Rattle.image.proofs.long_enough.Goals as goal

pub returns-then-image_len-size : goal.returns-then-image_len-size
returns-then-image_len-size c = rw (lt-leb _ _ c.if-image_len-size.true)

pub returns : goal.returns
returns c = rw (le-leb _ _ c.if-image_len-size.false)
