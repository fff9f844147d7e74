-- `f_teid::Fteid::unmarshal` meets its contract: the tests that lead to each return.
use Rattle.f_teid.proofs.Returns.{too_long, no_flags, forbidden}
use Rattle.f_teid.proofs.Fteid.unmarshal.Goals as goal

pub returns-then-n-gt65535 : goal.returns-then-n-gt65535
returns-then-n-gt65535 c = search too_long

pub returns-then-n-lt-MIN_LEN : goal.returns-then-n-lt-MIN_LEN
returns-then-n-lt-MIN_LEN c = search no_flags

pub returns-then-bit-2 : goal.returns-then-bit-2
returns-then-bit-2 c = search forbidden
