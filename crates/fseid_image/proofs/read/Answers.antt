-- `fseid_image::read` meets its contract: at each return, the tests that led there and what the calls handed over.
use borrow.Author.Rules.{rules}
use Rattle.fseid.proofs.Returns.{too_long, no_head}
use Rattle.image.proofs.Laws.{read_short, read_long}
use Rattle.fseid_image.proofs.Reading.{refusal}
use Rattle.fseid_image.proofs.read.Goals as goal

pub returns-then-image-lt-SIZE : goal.returns-then-image-lt-SIZE
returns-then-image-lt-SIZE c = let all = read_short _ _ _ c.if-image-lt-SIZE.true in record { value = all.0; image_after = all.1 }

pub returns-then-n-gt65535 : goal.returns-then-n-gt65535
returns-then-n-gt65535 c = let all = read_long _ _ _ (search rules) (refusal _ _ _ (c.put_refused.ensures.value, c.put_refused.ensures.out_after) (search too_long)) in record { value = all.0; image_after = all.1 }

pub returns-then-n-lt-MIN_LEN : goal.returns-then-n-lt-MIN_LEN
returns-then-n-lt-MIN_LEN c = let all = read_long _ _ _ (search rules) (refusal _ _ _ (c.put_short.ensures.value, c.put_short.ensures.out_after) (search no_head)) in record { value = all.0; image_after = all.1 }

pub returns-then-v6 : goal.returns-then-v6
returns-then-v6 c = let all = read_long _ _ _ (search rules) (c.read_concrete.ensures.value, c.read_concrete.ensures.image_after) in record { value = all.0; image_after = all.1 }

pub returns-then-bit : goal.returns-then-bit
returns-then-bit c = let all = read_long _ _ _ (search rules) (c.read_concrete-then-bit.ensures.value, c.read_concrete-then-bit.ensures.image_after) in record { value = all.0; image_after = all.1 }

pub returns-then-v6-2 : goal.returns-then-v6-2
returns-then-v6-2 c = let all = read_long _ _ _ (search rules) (c.read_concrete-then-v6-2.ensures.value, c.read_concrete-then-v6-2.ensures.image_after) in record { value = all.0; image_after = all.1 }

pub returns : goal.returns
returns c = let all = read_long _ _ _ (search rules) (c.read_concrete-2.ensures.value, c.read_concrete-2.ensures.image_after) in record { value = all.0; image_after = all.1 }
