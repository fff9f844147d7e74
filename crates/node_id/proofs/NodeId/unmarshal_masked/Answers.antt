-- `node_id::NodeId::unmarshal_masked` meets its contract: by what was read, or that it was refused.
use mathlib.Core.Path.{◌∙◌}
use Rattle.node_id.specs.NodeId.{refused}
use Rattle.node_id.proofs.NodeId.unmarshal_masked.Goals as goal

pub returns-in-Err : goal.returns-in-Err
unfolding refused
returns-in-Err c = c.refused.ensures ∙ rw c.new_fqdn.ensures (rw c.in-Err.is at c.read_masked.ensures)
