-- `node_id_image::read` meets its contract: by the room and the payload's length.
use borrow.Author.Rules.{rules}
use Rattle.node_id.specs.NodeId.{read}
use Rattle.node_id.proofs.Returns.{too_long, empty}
use Rattle.image.proofs.Laws.{read_short, read_long}
use Rattle.node_id_image.proofs.Reading.{refusal}
use Rattle.node_id_image.proofs.read.Goals as goal

pub returns-then-image-lt-SIZE : goal.returns-then-image-lt-SIZE
returns-then-image-lt-SIZE c = let all = read_short _ _ _ c.if-image-lt-SIZE.true in record { value = all.0; image_after = all.1 }

pub returns-then-n-gt65535 : goal.returns-then-n-gt65535
returns-then-n-gt65535 c = let all = read_long _ _ _ (search rules) (refusal read _ _ _ (c.put_refused.ensures.value, c.put_refused.ensures.out_after) (search too_long)) in record { value = all.0; image_after = all.1 }

pub returns-then-n-lt1 : goal.returns-then-n-lt1
returns-then-n-lt1 c = let all = read_long _ _ _ (search rules) (refusal read _ _ _ (c.put_short.ensures.value, c.put_short.ensures.out_after) (search empty)) in record { value = all.0; image_after = all.1 }

pub returns : goal.returns
returns c = let all = read_long _ _ _ (search rules) (c.read_typed.ensures.value, c.read_typed.ensures.image_after) in record { value = all.0; image_after = all.1 }
