-- `f_teid::read_concrete` meets its contract: at each return, the tests that led there and what the calls handed over.
use Rattle.octets.proofs.Laws.{part_width}
use Rattle.f_teid.proofs.Returns.{teid_fits, no_teid_law, no_ipv4_law, no_ipv6_law, whole}
use Rattle.f_teid.proofs.read_concrete.Goals as goal

pub returns-then-n-lt-TEID_END : goal.returns-then-n-lt-TEID_END
returns-then-n-lt-TEID_END c = search no_teid_law

pub returns-then-n-end4 : goal.returns-then-n-end4
returns-then-n-end4 c = search no_ipv4_law

pub returns-then-n-end6 : goal.returns-then-n-end6
returns-then-n-end6 c = search no_ipv6_law

pub overflow_cast-teid : goal.overflow_cast-teid
overflow_cast-teid c = record { fits = search teid_fits }

pub returns : goal.returns
returns c = search (whole, part_width)
