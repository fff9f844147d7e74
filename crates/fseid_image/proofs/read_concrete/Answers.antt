-- `fseid_image::read_concrete` meets its contract: at each return, the tests that led there and what the calls handed over.
use Rattle.fseid.proofs.Returns.{no_ipv4, no_ipv6, whole}
use Rattle.fseid_image.proofs.Reading.{refusal, accepted}
use Rattle.fseid_image.proofs.read_concrete.Goals as goal

pub returns-then-n-end4 : goal.returns-then-n-end4
returns-then-n-end4 c = let all = refusal _ _ _ (c.put_short.ensures.value, c.put_short.ensures.out_after) (search no_ipv4) in record { value = all.0; image_after = all.1 }

pub returns-then-n-end6 : goal.returns-then-n-end6
returns-then-n-end6 c = let all = refusal _ _ _ (c.put_short-then-n-end6.ensures.value, c.put_short-then-n-end6.ensures.out_after) (search no_ipv6) in record { value = all.0; image_after = all.1 }

pub returns : goal.returns
returns c = let all = accepted _ _ c.put_image.ensures (search whole) in record { value = all.0; image_after = all.1 }
