-- `octets::put_zeros` meets its contract.
use Prim.Native.Nat.{ℕ, ◌-◌, ◌≤◌}
use mathlib.Core.Path.{◌≡◌, refl, sym, ap, ◌∙◌}
use mathlib.Core.List.{List}
use native.Mathlib.Omega.{arith}
use lib.ListN.{length, replicate}
use Rattle.octets.specs.Octets.{over, put}
use Rattle.octets.proofs.Laws.{over_nil, zeros_step, zeros_all, zeros_not}
use Rattle.octets.proofs.put_zeros.Goals as goal

-- none is left
all_zeros : (e : ℕ) (d d' : List ℕ) (at i : ℕ) → e ≤ i → e ≤ length d → over d' i (replicate (e - i) 0) ≡ over d at (replicate (e - at) 0) → d' ≡ put d at (replicate (e - at) 0)
all_zeros e d d' at i h r q = let none : e - i ≡ 0 = omega arith in sym (over_nil d' i) ∙ ap (λ (n : ℕ). over d' i (replicate n 0)) (sym none) ∙ q ∙ zeros_all d at e r

pub returns-then-out-end : goal.returns-then-out-end
returns-then-out-end c = zeros_not _ _ _ c.if-out-end.true

pub loop-i-init : goal.loop-i-init
loop-i-init c = refl

pub loop-i-preserved : goal.loop-i-preserved
loop-i-preserved c = zeros_step _ _ _ (omega arith) (omega arith) ∙ c.loop-i.invariant

pub returns : goal.returns
returns c = all_zeros c.args.end _ _ _ _ (omega arith) (omega arith) c.loop-i.invariant
