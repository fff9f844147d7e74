-- `pfd_contents_image::read` meets its contract: by the room and the payload's length, then by the fields.
use borrow.Author.Rules.{rules}
use native.Mathlib.Omega.{arith}
use mathlib.Core.Path.{ap, ◌∙◌}
use Rattle.pfd_contents.specs.PfdContents.{refused, read}
use Rattle.pfd_contents.proofs.Returns.{too_long, too_short, enough, as_fields}
use Rattle.image.proofs.Laws.{read_short, read_long}
use Rattle.pfd_contents_image.proofs.Reading.{accepted, refusal}
use Rattle.pfd_contents_image.proofs.read.Goals as goal

pub returns-then-image-lt-SIZE : goal.returns-then-image-lt-SIZE
returns-then-image-lt-SIZE c = let all = read_short _ _ _ c.if-image-lt-SIZE.true in record { value = all.0; image_after = all.1 }

pub returns-then-n-gt65535 : goal.returns-then-n-gt65535
returns-then-n-gt65535 c = let all = read_long _ _ _ (search rules) (refusal read _ _ _ (c.put_refused.ensures.value, c.put_refused.ensures.out_after) (search too_long)) in record { value = all.0; image_after = all.1 }

pub returns-then-n-lt2 : goal.returns-then-n-lt2
returns-then-n-lt2 c = let all = read_long _ _ _ (search rules) (refusal read _ _ _ (c.put_short.ensures.value, c.put_short.ensures.out_after) (search too_short)) in record { value = all.0; image_after = all.1 }

pub returns-in-Ok : goal.returns-in-Ok
returns-in-Ok c =
    let all = read_long _ _ _ (search rules) (accepted read _ _ c.put_image.ensures (enough _ _ (omega arith) (omega arith) (as_fields _ _ c.read_fields.ensures c.in-Ok.is))) in
    record { value = all.0; image_after = all.1 }

pub returns-in-Err : goal.returns-in-Err
returns-in-Err c =
    let all = read_long _ _ _ (search rules) (refusal read _ _ _ (c.put_refused-in-Err.ensures.value, c.put_refused-in-Err.ensures.out_after) (enough _ _ (omega arith) (omega arith) (ap refused c.from.ensures ∙ as_fields _ _ c.read_fields.ensures c.in-Err.is))) in
    record { value = all.0; image_after = all.1 }
