use mathlib.Core.Path.{◌≡◌}
use native.Mathlib.Omega.{arith}
use Rattle.std.proofs.lemmas.Grind.{common_steps}
use mathlib.Core.Bool.{false≢true}
use lib.ListN.{take, drop}
use borrow.Author.Tests.{ltb-true}
use Rattle.std.specs.Prelude.{fold}
use Rattle.std.specs.Int.Bits.{bit_or}
use Rattle.text.proofs.Laws.{ascii_block}
use Rattle.text.proofs.ascii_at.Goals as goal

pub returns-then-text-at : goal.returns-then-text-at
returns-then-text-at c = λ e. absurd (false≢true e)

pub returns : goal.returns
returns c = λ e.
    let a = c.args in
    let bits : c.fold.result ≡ fold bit_or 0 (take a.width (drop a.at a.text.now)) = grind (arith, common_steps) in
    ascii_block a.text.now a.at a.width (omega arith) (rw bits at (ltb-true _ _ e))
