-- `fseid::Fseid::unmarshal` meets its contract: at each return, the tests that led there and what the calls handed over.
use Rattle.octets.proofs.Laws.{part_width}
use Rattle.fseid.proofs.Returns.{too_long, no_head, no_ipv4, no_ipv6, whole}
use Rattle.fseid.proofs.Fseid.unmarshal.Goals as goal

pub returns-then-n-gt65535 : goal.returns-then-n-gt65535
returns-then-n-gt65535 c = search too_long

pub returns-then-n-lt-MIN_LEN : goal.returns-then-n-lt-MIN_LEN
returns-then-n-lt-MIN_LEN c = search no_head

pub returns-then-n-end4 : goal.returns-then-n-end4
returns-then-n-end4 c = search no_ipv4

pub returns-then-n-end6 : goal.returns-then-n-end6
returns-then-n-end6 c = search no_ipv6

pub returns : goal.returns
returns c = search (whole, part_width)
