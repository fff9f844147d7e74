-- `hex_text::parse` meets its contract. The invariant: the pairs passed stand in the output, and the others are still to come.
use Prim.Native.Nat.{◌+◌, ◌*◌}
use native.Mathlib.Omega.{arith}
use mathlib.Core.Path.{◌≡◌, refl, ◌∙◌}
use Rattle.hex_text.specs.Hex.{worth}
use Rattle.hex_text.proofs.Laws.{looked_up, looked_most, parsed_none, parsed_bad, parsed_more, parsed_all}
use Rattle.hex_text.proofs.parse.Goals as goal

pub loop-i-init : goal.loop-i-init
unfolding worth
loop-i-init c = (refl, c.min-n.ensures, parsed_none _ _)

pub overflow_mul-b-in-loop-i : goal.overflow_mul-b-in-loop-i
overflow_mul-b-in-loop-i c = omega (arith, looked_most _ _ c.loop-i.invariant.0 (c.type_inv.text (2 * c.loop-i.i)).fits)

pub overflow_add-b-in-loop-i : goal.overflow_add-b-in-loop-i
overflow_add-b-in-loop-i c =
    omega (arith, looked_most _ _ c.loop-i.invariant.0 (c.type_inv.text (2 * c.loop-i.i)).fits, looked_most _ _ c.loop-i.invariant.0 (c.type_inv.text (2 * c.loop-i.i + 1)).fits)

pub returns-then-b-gt255 : goal.returns-then-b-gt255
returns-then-b-gt255 c =
    let high = looked_up _ _ c.loop-i.invariant.0 (c.type_inv.text (2 * c.loop-i.i)).fits in
    let low = looked_up _ _ c.loop-i.invariant.0 (c.type_inv.text (2 * c.loop-i.i + 1)).fits in
    let all = parsed_bad _ _ _ c.loop-i.i c.loop-i.invariant.2 (omega arith) (omega arith) _ _ high low c.if-b-gt255.true in
    record { value = all.0; out_after = all.1.0; upper_bound = all.1.1 }

pub loop-i-preserved : goal.loop-i-preserved
loop-i-preserved c =
    let high = looked_up _ _ c.loop-i.invariant.0 (c.type_inv.text (2 * c.loop-i.i)).fits in
    let low = looked_up _ _ c.loop-i.invariant.0 (c.type_inv.text (2 * c.loop-i.i + 1)).fits in
    (c.loop-i.invariant.0, c.loop-i.invariant.1, parsed_more _ _ _ c.loop-i.i c.loop-i.invariant.2 (omega arith) (omega arith) _ _ high low c.if-b-gt255.false)

pub returns : goal.returns
returns c = let all = parsed_all _ _ _ c.loop-i.i c.loop-i.invariant.2 (omega arith) (omega arith) in
    let e : c.min-n.result ≡ c.loop-i.i = omega arith in
    record { value = e ∙ all.0; out_after = all.1.0; upper_bound = omega (arith, c.min-n.ensures) }
