-- `image::put_address` meets its contract.
use Rattle.image.specs.Image.{address_bytes}
use Rattle.image.proofs.put_address.Goals as goal

pub returns : goal.returns
unfolding address_bytes
returns g c = rw (← c.unwrap_or.ensures) c.put_bytes.ensures
