-- `node_id::read_name` meets its contract: by whether all behind the type is well formed.
use Rattle.node_id.proofs.Returns.{garbled, whole}
use Rattle.node_id.proofs.read_name.Goals as goal

pub returns-then-good-name : goal.returns-then-good-name
returns-then-good-name c = search garbled

pub returns : goal.returns
returns c = search whole
