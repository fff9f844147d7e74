-- `pfd_contents::write::form_width` meets its contract: the widths in a row.
use Rattle.pfd_contents.proofs.Written.{widths}
use Rattle.pfd_contents.proofs.write.form_width.Goals as goal

pub returns : goal.returns
returns c = search widths
