-- `pfd_contents::write::list_width` meets its contract.
use Rattle.pfd_contents.proofs.Written.{list_width, list_small}
use Rattle.pfd_contents.proofs.write.list_width.Goals as goal

pub returns : goal.returns
returns c = record { value = search list_width; upper_bound = search list_small }
