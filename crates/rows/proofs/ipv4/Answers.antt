-- `rows::ipv4` meets its contract: four bytes make a number.
use mathlib.Core.Path.{ap, ◌∙◌}
use borrow.Author.Rules.{rules}
use Rattle.std.proofs.Common.{◌≡◌, length}
use Rattle.rows.specs.Values.{hex_value}
use Rattle.rows.proofs.Laws.{ipv4_number}
use Rattle.rows.proofs.ipv4.Goals as goal

-- the array is as long as its type says
pub returns-in-Some : goal.returns-in-Some
returns-in-Some c =
    let long : length c.in-Some.octets ≡ 4 = search rules in
    rw c.in-Some.is (c.number-in-Some.ensures ∙ ap (hex_value 4) (ipv4_number c.in-Some.octets _ long c.number.ensures.value))
