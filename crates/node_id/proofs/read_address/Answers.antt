-- `node_id::read_address` meets its contract: the part behind the type is an address where it has as many bytes.
use Rattle.node_id.proofs.Returns.{address_part}
use Rattle.node_id.proofs.read_address.Goals as goal

pub returns : goal.returns
returns g c = rw (c.ok_or.ensures.value, c.address.ensures, c.part.ensures) (address_part _ _ _ c.args.payload.in_bounds)
