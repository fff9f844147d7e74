-- `octets::if_set` meets its contract: by the flag.
use native.Mathlib.Omega.{arith}
use Rattle.octets.specs.Octets.{if_set}
use Rattle.octets.proofs.if_set.Goals as goal

pub returns-then-flag : goal.returns-then-flag
unfolding if_set
returns-then-flag c = record { value = rw c.if-flag.true; upper_bound = omega arith }

pub returns-else-flag : goal.returns-else-flag
unfolding if_set
returns-else-flag c = record { value = rw c.if-flag.false; upper_bound = omega arith }
