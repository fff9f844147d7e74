-- `image::address_at` meets its contract: the address of a part that is as wide as the flag says.
use native.Mathlib.Omega.{arith}
use Rattle.octets.specs.Octets.{if_set, address_of}
use Rattle.image.proofs.Laws.{part_at}
use Rattle.image.proofs.address_at.Goals as goal

pub returns : goal.returns
unfolding if_set
returns g c = part_at (address_of g.row.N) c.args.bytes.now _ c.args.at _ g.row.N c.args.given _ (omega arith) c.part.ensures c.address.ensures
