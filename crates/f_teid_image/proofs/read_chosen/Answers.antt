-- `f_teid_image::read_chosen` meets its contract: at each return, the tests that led there and what the calls handed over.
use Rattle.f_teid.proofs.Returns.{choose_id_fits, no_choose_id, chosen}
use Rattle.f_teid_image.proofs.Reading.{refusal, accepted}
use Rattle.f_teid_image.proofs.read_chosen.Goals as goal

pub returns-then-n-end : goal.returns-then-n-end
returns-then-n-end c = let all = refusal _ _ _ (c.put_short.ensures.value, c.put_short.ensures.out_after) (search no_choose_id) in record { value = all.0; image_after = all.1 }

pub overflow_cast-choose_id : goal.overflow_cast-choose_id
overflow_cast-choose_id c = record { fits = search choose_id_fits }

pub returns : goal.returns
returns c = let all = accepted _ _ c.put_image.ensures (search chosen) in record { value = all.0; image_after = all.1 }
