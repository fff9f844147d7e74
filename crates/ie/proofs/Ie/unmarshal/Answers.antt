-- `ie::Ie::unmarshal` meets its contract: 5, then what the tests say, then the record.
use Rattle.ie.specs.Ie.{refused}
use Rattle.ie.proofs.Envelopes.{ends, too_long, refused_one, found_one}
use Rattle.ie.proofs.Ie.unmarshal.Goals as goal

pub returns-then-n-gt65535 : goal.returns-then-n-gt65535
unfolding refused
returns-then-n-gt65535 c = search too_long

pub record_of-requires : goal.record_of-requires
record_of-requires c = (ends c.args.zero_types.now c.args.s.now c.end_of.ensures c.in-Ok.is).0

pub returns-in-Err : goal.returns-in-Err
unfolding refused
returns-in-Err c = search refused_one

pub returns-in-Ok : goal.returns-in-Ok
returns-in-Ok c = search found_one
