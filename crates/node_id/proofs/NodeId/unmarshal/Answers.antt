-- `node_id::NodeId::unmarshal` meets its contract: all bits of a byte are kept.
use mathlib.Core.Path.{◌∙◌, ap}
use Rattle.kind.proofs.Laws.{clear_low}
use Rattle.node_id.specs.NodeId.{read}
use Rattle.node_id.proofs.NodeId.unmarshal.Goals as goal

pub returns : goal.returns
returns c = c.unmarshal_masked.ensures ∙ ap read (clear_low 8 _ (c.shared_slice_known-1.given 0).fits)
