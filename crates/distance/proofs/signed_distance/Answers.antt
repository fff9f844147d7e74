-- `distance::signed_distance` meets its contract: at each return, the tests that led there.
use Rattle.distance.proofs.Laws.{above, wrapped_near, wrapped_far}
use Rattle.distance.proofs.signed_distance.Goals as goal

pub returns-then-from-gt-MAX : goal.returns-then-from-gt-MAX
returns-then-from-gt-MAX c = above c.args.from c.args.to c.then-from-gt-MAX.either

pub returns-then-forward : goal.returns-then-forward
returns-then-forward c = search wrapped_near

pub returns : goal.returns
returns c = search wrapped_far
