-- `ue_ip_address::UeIpAddress::choose` meets its contract: a new record without addresses, but for the two choices.
use Rattle.ue_ip_address.specs.UeIpAddress.{made, choosing}
use Rattle.ue_ip_address.proofs.UeIpAddress.choose.Goals as goal

pub returns : goal.returns
unfolding made choosing
returns c = rw c.new.ensures
