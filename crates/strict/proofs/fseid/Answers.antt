-- `strict::fseid` meets its contract: what was read is what the definition reads.
use mathlib.Core.Path.{◌≡◌}
use mathlib.Core.Bool.{◌||◌}
use borrow.Author.Rules.{rules}
use Rattle.fseid.specs.Fseid.{meaning}
use Rattle.strict.specs.Strict.{verdict}
use Rattle.strict.proofs.fseid.Goals as goal

pub returns : goal.returns
unfolding verdict meaning
returns c =
    let v = c.verdict.ensures in
    let r = c.unmarshal.result.«record» in
    let asked : v.0 ≡ (r.v4 || r.v6) = search rules in rw (v.2, asked, c.unmarshal.ensures)
