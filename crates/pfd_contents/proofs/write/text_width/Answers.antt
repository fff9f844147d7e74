-- `pfd_contents::write::text_width` meets its contract: by whether the text is there.
use Rattle.text_fields.specs.Fields.{text_meaning, text_wire}
use Rattle.pfd_contents.proofs.Written.{text_width}
use Rattle.pfd_contents.proofs.write.text_width.Goals as goal

pub returns-in-Some-clause-value : goal.returns-in-Some-clause-value
returns-in-Some-clause-value c = rw c.in-Some.is (text_width _ _ _ c.of.ensures)

pub returns-in-None-clause-value : goal.returns-in-None-clause-value
unfolding text_meaning text_wire
returns-in-None-clause-value c = rw c.in-None.is
