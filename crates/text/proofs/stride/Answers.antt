use mathlib.Core.Path.{◌≡◌, ◌∙◌}
use native.Mathlib.Omega.{arith}
use Rattle.text.specs.Utf8.{rows, seq_len}
use lib.ListN.{drop, length-drop}
use Prim.Native.Nat.{◌+◌, ◌-◌}
use Rattle.text.proofs.Laws.{passed_none, passed_on, passed_whole}
use Rattle.text.proofs.Table.{seq_four}
use Rattle.text.proofs.stride.Goals as goal

pub returns-in_default : goal.returns-in_default
returns-in_default c = passed_none _ _ c.requires

pub loop-at-init : goal.loop-at-init
loop-at-init c = passed_none _ _ c.requires

pub loop-at-preserved : goal.loop-at-preserved
loop-at-preserved c =
    let text = c.args.text.now in
    let at = c.loop-at.at in
    let four : at + 4 - at ≡ 4 = omega arith in
    let n : c.in-Some-whole.n ≡ seq_len rows (drop at text) = rw four at c.in-Some-whole.ensures.2 ∙ seq_four (drop at text) (omega (arith, length-drop at text)) in
    passed_on c.loop-at.invariant (passed_whole text at c.in-Some-whole.n n (omega arith))
