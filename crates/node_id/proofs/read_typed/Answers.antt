-- `node_id::read_typed` meets its contract: by the type.
use Rattle.node_id.specs.NodeId.{of_ipv4, of_ipv6, by_type}
use native.Mathlib.Omega.{arith}
use mathlib.Core.Path.{◌≡◌, refl, sym, ◌∙◌}
use Rattle.node_id.proofs.Returns.{lost, found_address, lost_address, found_name, lost_name, no_type}
use Rattle.node_id.proofs.read_typed.Goals as goal

pub returns-in_ok-read_address-in-0 : goal.returns-in_ok-read_address-in-0
unfolding by_type
returns-in_ok-read_address-in-0 c = rw c.in-0.is (found_address _ 1 4 of_ipv4 (sym (c.in_ok-read_address-in-0.was) ∙ c.read_address.ensures))

pub returns-in_err-read_address-in-0 : goal.returns-in_err-read_address-in-0
unfolding by_type
returns-in_err-read_address-in-0 c = rw c.in-0.is (lost _ _ c.from_residual.ensures.1 ∙ lost_address _ 1 4 of_ipv4 (sym (c.in_err-read_address-in-0.was) ∙ c.read_address.ensures))

pub returns-in_ok-read_address-in-1 : goal.returns-in_ok-read_address-in-1
unfolding by_type
returns-in_ok-read_address-in-1 c = rw c.in-1.is (found_address _ 2 16 of_ipv6 (sym (c.in_ok-read_address-in-1.was) ∙ c.read_address-in-1.ensures))

pub returns-in_err-read_address-in-1 : goal.returns-in_err-read_address-in-1
unfolding by_type
returns-in_err-read_address-in-1 c = rw c.in-1.is (lost _ _ c.from_residual-in_err-read_address-in-1.ensures.1 ∙ lost_address _ 2 16 of_ipv6 (sym (c.in_err-read_address-in-1.was) ∙ c.read_address-in-1.ensures))

pub returns-in_ok-read_name-in-2 : goal.returns-in_ok-read_name-in-2
unfolding by_type
returns-in_ok-read_name-in-2 c = let e : c.args.kind ≡ 2 = omega arith in rw e (found_name _ (sym (c.in_ok-read_name-in-2.was) ∙ c.read_name.ensures))

pub returns-in_err-read_name-in-2 : goal.returns-in_err-read_name-in-2
unfolding by_type
returns-in_err-read_name-in-2 c = let e : c.args.kind ≡ 2 = omega arith in rw e (lost _ _ c.from_residual-in_err-read_name-in-2.ensures.1 ∙ lost_name _ (sym (c.in_err-read_name-in-2.was) ∙ c.read_name.ensures))

pub returns-in_default : goal.returns-in_default
returns-in_default c = no_type _ _ _ (omega arith) refl
