-- `strict::node_id` meets its contract: what was read is what the definition reads once the payload is cleared.
use mathlib.Core.Path.{◌≡◌}
use mathlib.Core.Bool.{true}
use borrow.Author.Rules.{rules}
use Rattle.strict.specs.Strict.{verdict}
use Rattle.strict.proofs.node_id.Goals as goal

pub returns : goal.returns
unfolding verdict
returns c =
    let v = c.verdict.ensures in
    let asked : v.0 ≡ true = search rules in rw (v.2, asked, c.unmarshal_masked.ensures)
