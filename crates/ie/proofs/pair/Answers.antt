-- `ie::pair` meets its contract: two bytes make a number.
use Rattle.ie.proofs.Envelopes.{two_bytes}
use Rattle.ie.proofs.pair.Goals as goal

pub returns : goal.returns
returns c = search two_bytes
