-- `ue_ip_address::UeIpAddress::new` meets its contract.
use Rattle.ue_ip_address.specs.UeIpAddress.{made}
use Rattle.ue_ip_address.proofs.UeIpAddress.new.Goals as goal

pub returns : goal.returns
unfolding made
returns c = rw (c.is_some.ensures, c.is_some-2.ensures)
