-- `node_id_image::record_at` meets its contract: each field from its place.
use Rattle.image.specs.Image.{address_bytes}
use Rattle.octets.specs.Octets.{if_set}
use Rattle.node_id_image.specs.NodeIdImage.{record_at}
use Rattle.node_id_image.proofs.record_at.Goals as goal

pub returns : goal.returns
unfolding record_at address_bytes if_set
returns c = rw (c.from.ensures, c.unwrap_or.ensures, c.unwrap_or-2.ensures, c.address_at.ensures, c.address_at-2.ensures, c.byte_at.ensures, c.u64_at.ensures, c.u64_at-2.ensures)
