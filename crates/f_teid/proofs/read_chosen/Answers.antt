-- `f_teid::read_chosen` meets its contract: at each return, the tests that led there and what the calls handed over.
use Rattle.f_teid.proofs.Returns.{choose_id_fits, no_choose_id, chosen}
use Rattle.f_teid.proofs.read_chosen.Goals as goal

pub returns-then-n-end : goal.returns-then-n-end
returns-then-n-end c = search no_choose_id

pub overflow_cast-choose_id : goal.overflow_cast-choose_id
overflow_cast-choose_id c = record { fits = search choose_id_fits }

pub returns : goal.returns
returns c = search chosen
