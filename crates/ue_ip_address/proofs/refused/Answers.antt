-- `ue_ip_address::refused` meets its contract: a record that chooses nothing is the empty one.
use Rattle.ue_ip_address.specs.UeIpAddress.{choosing, refused}
use Rattle.ue_ip_address.proofs.refused.Goals as goal

pub returns : goal.returns
unfolding choosing refused
returns c = rw (c.refused.ensures, c.choose.ensures)
