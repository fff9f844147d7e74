-- `octets::put_number_if` meets its contract: by whether there is a number.
use mathlib.Core.Path.{sym}
use Rattle.octets.specs.Octets.{number_if}
use Rattle.octets.proofs.Laws.{put_nil}
use Rattle.octets.proofs.put_number_if.Goals as goal

pub returns-in-Some : goal.returns-in-Some
unfolding number_if
returns-in-Some c = rw c.in-Some.is c.put_number.ensures

pub returns-in_default : goal.returns-in_default
unfolding number_if
returns-in_default c = rw c.in_default.is (sym (put_nil _ _))
