-- `pfd_contents::PfdContentsBuilder::build` meets its contract: by the lent slice, the fields, and whether there is any.
use Rattle.pfd_contents.proofs.Building.{build_long, build_bad, build_none, build_done}
use Rattle.pfd_contents.proofs.build.PfdContentsBuilder.build.Goals as goal

pub returns-then-n-gt65535 : goal.returns-then-n-gt65535
returns-then-n-gt65535 c = search build_long

pub returns-in-Some : goal.returns-in-Some
returns-in-Some c = search build_bad

pub returns-then-record-eq0 : goal.returns-then-record-eq0
returns-then-record-eq0 c = search build_none

pub returns : goal.returns
returns c = search build_done
