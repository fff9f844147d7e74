-- `image::number_or_zero` meets its contract: the number of a part that is as wide as the flag says.
use Rattle.std.proofs.Common.{ℕ, List, leb, ◌<◌, ◌^◌}
use Rattle.std.specs.Prelude.{Option, None, Some, unwrap_or, IfSome}
use native.Mathlib.Nat.{one-le-pow}
use native.Mathlib.Omega.{arith}
use lib.Dec.{lit<}
use mathlib.Core.Path.{ap, ◌∙◌}
use Rattle.octets.specs.Octets.{pick, if_set, number_of}
use Rattle.image.proofs.Laws.{part_at}
use Rattle.image.proofs.number_or_zero.Goals as goal

below : (w : ℕ) (o : Option ℕ) → IfSome o (λ x. x < 256 ^ w) → unwrap_or o 0 < 256 ^ w
below w (Some x) h = h
below w None h = one-le-pow w 256 (lit< tt)

pub returns-clause-upper_bound : goal.returns-clause-upper_bound
returns-clause-upper_bound g c = rw c.unwrap_or.ensures (below g.row.W _ c.number_of.ensures.upper_bound)

pub returns-clause-value : goal.returns-clause-value
unfolding if_set
returns-clause-value g c =
    c.unwrap_or.ensures
    ∙ ap (λ o. unwrap_or o 0) (part_at (λ (bs : List ℕ). pick (leb g.row.W 8) (number_of g.row.W bs) None) c.args.bytes.now _ c.args.at _ c.args.width c.args.given _ (omega arith) c.part.ensures c.number_of.ensures.value)
