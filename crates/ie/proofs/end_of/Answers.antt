-- `ie::end_of` meets its contract: by its tests, in their order.
use borrow.Author.Rules.{rules}
use Rattle.ie.proofs.Envelopes.{no_head, zero_length, no_vendor, too_small, cut, whole}
use Rattle.ie.proofs.end_of.Goals as goal

pub returns-in_err-at_least : goal.returns-in_err-at_least
returns-in_err-at_least c = search (rules, no_head)

pub returns-then-not-may_have : goal.returns-then-not-may_have
returns-then-not-may_have c = search (rules, zero_length)

pub returns-in_err-at_least-2 : goal.returns-in_err-at_least-2
returns-in_err-at_least-2 c = search (rules, no_vendor)

pub returns-in_err-at_least-3 : goal.returns-in_err-at_least-3
returns-in_err-at_least-3 c = search (rules, too_small)

pub returns-in_err-at_least-4 : goal.returns-in_err-at_least-4
returns-in_err-at_least-4 c = search (rules, cut)

pub returns : goal.returns
returns c = search (rules, whole)
