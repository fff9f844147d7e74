-- `node_id_image::read_name` meets its contract: by whether all behind the type is well formed.
use mathlib.Core.Path.{ap}
use Rattle.node_id_image.specs.NodeIdImage.{bytes_of}
use Rattle.node_id.specs.NodeId.{read_fqdn}
use Rattle.node_id.proofs.Returns.{garbled, whole, found_name, lost_name}
use Rattle.node_id_image.proofs.Reading.{refusal, accepted}
use Rattle.node_id_image.proofs.read_name.Goals as goal

pub returns-then-good-name : goal.returns-then-good-name
returns-then-good-name c = let all = refusal read_fqdn _ _ _ (c.put_refused.ensures.value, c.put_refused.ensures.out_after) (lost_name _ (search garbled)) in record { value = all.0; image_after = all.1 }

pub returns : goal.returns
returns c = let all = accepted read_fqdn _ _ (c.put_fields.ensures.value, rw (ap bytes_of c.from.ensures) at c.put_fields.ensures.out_after) (rw c.new_fqdn.ensures (found_name _ (search whole))) in record { value = all.0; image_after = all.1 }
