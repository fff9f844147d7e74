-- `pfd_contents::write::bad_field` meets its contract: the fields in their order.
use Rattle.pfd_contents.proofs.Written.{all_tested}
use Rattle.pfd_contents.proofs.write.bad_field.Goals as goal

pub returns : goal.returns
returns c = search all_tested
