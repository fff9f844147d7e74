-- `outer_header_creation::OuterHeaderCreation::unmarshal` meets its contract: at each return, the tests that led there and what the calls handed over.
use Rattle.outer_header_creation.proofs.Returns.{too_long, no_head, cut, whole, ends_asked}
use borrow.Author.Rules.{rules}
use Rattle.outer_header_creation.proofs.OuterHeaderCreation.unmarshal.Goals as goal

pub returns-then-n-gt65535 : goal.returns-then-n-gt65535
returns-then-n-gt65535 c = search too_long

pub returns-then-n-lt-MIN_LEN : goal.returns-then-n-lt-MIN_LEN
returns-then-n-lt-MIN_LEN c = search no_head

pub returns-then-n-ends : goal.returns-then-n-ends
returns-then-n-ends c = search cut

pub record_of-requires : goal.record_of-requires
record_of-requires c = search (rules, ends_asked)

pub returns : goal.returns
returns c = search whole
