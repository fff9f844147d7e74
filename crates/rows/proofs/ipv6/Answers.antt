-- `rows::ipv6` meets its contract: eight bytes make a number.
use Rattle.rows.proofs.Laws.{ipv6_hex}
use Rattle.rows.proofs.ipv6.Goals as goal

pub returns-in-Some : goal.returns-in-Some
returns-in-Some c = rw c.in-Some.is (search ipv6_hex)
