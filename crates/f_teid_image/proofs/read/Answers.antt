-- `f_teid_image::read` meets its contract: at each return, the tests that led there and what the calls handed over.
use borrow.Author.Rules.{rules}
use Rattle.octets.proofs.Laws.{flag_is}
use Rattle.f_teid.proofs.Returns.{too_long, no_flags, forbidden, no_teid_law}
use Rattle.image.proofs.Laws.{read_short, read_long}
use Rattle.f_teid_image.proofs.Reading.{refusal}
use Rattle.f_teid_image.proofs.read.Goals as goal

pub returns-then-image-lt-SIZE : goal.returns-then-image-lt-SIZE
returns-then-image-lt-SIZE c = let all = read_short _ _ _ c.if-image-lt-SIZE.true in record { value = all.0; image_after = all.1 }

pub returns-then-n-gt65535 : goal.returns-then-n-gt65535
returns-then-n-gt65535 c = let all = read_long _ _ _ (search rules) (refusal _ _ _ (c.put_refused.ensures.value, c.put_refused.ensures.out_after) (search too_long)) in record { value = all.0; image_after = all.1 }

pub returns-then-n-lt-MIN_LEN : goal.returns-then-n-lt-MIN_LEN
returns-then-n-lt-MIN_LEN c = let all = read_long _ _ _ (search rules) (refusal _ _ _ (c.put_short.ensures.value, c.put_short.ensures.out_after) (search no_flags)) in record { value = all.0; image_after = all.1 }

pub returns-then-chid : goal.returns-then-chid
returns-then-chid c = let all = read_long _ _ _ (search rules) (c.read_chosen.ensures.value, c.read_chosen.ensures.image_after) in record { value = all.0; image_after = all.1 }

pub returns-then-bit : goal.returns-then-bit
returns-then-bit c = let all = read_long _ _ _ (search rules) (c.read_chosen-then-bit.ensures.value, c.read_chosen-then-bit.ensures.image_after) in record { value = all.0; image_after = all.1 }

pub returns-then-chid-2 : goal.returns-then-chid-2
returns-then-chid-2 c = let all = read_long _ _ _ (search rules) (refusal _ _ _ (c.put_flags.ensures.value, c.put_flags.ensures.out_after) (search forbidden)) in record { value = all.0; image_after = all.1 }

pub returns-then-n-lt-TEID_END : goal.returns-then-n-lt-TEID_END
returns-then-n-lt-TEID_END c = let all = read_long _ _ _ (search rules) (refusal _ _ _ (c.put_short-then-n-lt-TEID_END.ensures.value, c.put_short-then-n-lt-TEID_END.ensures.out_after) (search (no_teid_law, flag_is))) in record { value = all.0; image_after = all.1 }

pub returns-then-v6 : goal.returns-then-v6
returns-then-v6 c = let all = read_long _ _ _ (search rules) (c.read_concrete.ensures.value, c.read_concrete.ensures.image_after) in record { value = all.0; image_after = all.1 }

pub returns-then-bit-2 : goal.returns-then-bit-2
returns-then-bit-2 c = let all = read_long _ _ _ (search rules) (c.read_concrete-then-bit-2.ensures.value, c.read_concrete-then-bit-2.ensures.image_after) in record { value = all.0; image_after = all.1 }

pub returns-then-v6-2 : goal.returns-then-v6-2
returns-then-v6-2 c = let all = read_long _ _ _ (search rules) (c.read_concrete-then-v6-2.ensures.value, c.read_concrete-then-v6-2.ensures.image_after) in record { value = all.0; image_after = all.1 }

pub returns : goal.returns
returns c = let all = read_long _ _ _ (search rules) (c.read_concrete-2.ensures.value, c.read_concrete-2.ensures.image_after) in record { value = all.0; image_after = all.1 }
