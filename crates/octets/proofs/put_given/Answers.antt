-- `octets::put_given` meets its contract: by whether there are bytes.
use mathlib.Core.Path.{sym}
use Rattle.octets.specs.Octets.{bytes_if}
use Rattle.octets.proofs.Laws.{put_nil}
use Rattle.octets.proofs.put_given.Goals as goal

pub returns-in-Some : goal.returns-in-Some
unfolding bytes_if
returns-in-Some c = rw c.in-Some.is c.put_bytes.ensures

pub returns-in_default : goal.returns-in_default
unfolding bytes_if
returns-in_default c = rw c.in_default.is (sym (put_nil _ _))
