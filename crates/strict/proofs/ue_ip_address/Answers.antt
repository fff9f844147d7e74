-- `strict::ue_ip_address` meets its contract: what was read is what the definition reads.
use mathlib.Core.Path.{◌≡◌}
use mathlib.Core.Bool.{true}
use borrow.Author.Rules.{rules}
use Rattle.strict.specs.Strict.{verdict}
use Rattle.strict.proofs.ue_ip_address.Goals as goal

pub returns : goal.returns
unfolding verdict
returns c =
    let v = c.verdict.ensures in
    let asked : v.0 ≡ true = search rules in rw (v.2, asked, c.unmarshal.ensures)
