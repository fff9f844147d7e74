-- `ue_ip_address::broken_rule` meets its contract: the rules in their order.
use mathlib.Core.Path.{ap}
use Rattle.ue_ip_address.specs.UeIpAddress.{rule_of}
use Rattle.ue_ip_address.proofs.Rules.{rule1, rule2, rule3, no_rule}
use Rattle.ue_ip_address.proofs.broken_rule.Goals as goal

pub returns-then-breaks_rule_1 : goal.returns-then-breaks_rule_1
unfolding rule_of
returns-then-breaks_rule_1 c = ap rule_of {x = 1} (search rule1)

pub returns-then-breaks_rule_2 : goal.returns-then-breaks_rule_2
unfolding rule_of
returns-then-breaks_rule_2 c = ap rule_of {x = 2} (search rule2)

pub returns-then-breaks_rule_3 : goal.returns-then-breaks_rule_3
unfolding rule_of
returns-then-breaks_rule_3 c = ap rule_of {x = 3} (search rule3)

pub returns : goal.returns
unfolding rule_of
returns c = ap rule_of {x = 0} (search no_rule)
