-- `node_id_image::read_typed` meets its contract: by the type.
use native.Mathlib.Omega.{arith}
use mathlib.Core.Path.{refl, sym, ap, ◌∙◌}
use Rattle.octets.specs.Octets.{address_of}
use Rattle.node_id.specs.NodeId.{of_ipv4, of_ipv6, read_fqdn, by_type, read}
use Rattle.node_id.proofs.Returns.{found_part, lost_part, no_type, typed, of_type}
use Rattle.node_id_image.proofs.Reading.{same, refusal, accepted}
use Rattle.node_id_image.proofs.read_typed.Goals as goal

pub returns-in-Some : goal.returns-in-Some
unfolding by_type
returns-in-Some c =
    let found = found_part _ 1 4 of_ipv4 c.args.payload.in_bounds (sym c.in-Some.is ∙ c.address.ensures ∙ ap (address_of 4) c.part.ensures) in
    let all = accepted read _ _ (c.put_fields.ensures.value, c.put_fields.ensures.out_after) (of_type _ _ (omega arith) (omega arith) 0 c.in-0.is found) in record { value = all.0; image_after = all.1 }

pub returns-in-None : goal.returns-in-None
unfolding by_type
returns-in-None c =
    let lost = lost_part _ 1 4 of_ipv4 c.args.payload.in_bounds (sym c.in-None.is ∙ c.address.ensures ∙ ap (address_of 4) c.part.ensures) in
    let all = refusal read _ _ _ (c.put_short.ensures.value, c.put_short.ensures.out_after) (of_type _ _ (omega arith) (omega arith) 0 c.in-0.is lost) in record { value = all.0; image_after = all.1 }

pub returns-in-Some-address : goal.returns-in-Some-address
unfolding by_type
returns-in-Some-address c =
    let found = found_part _ 2 16 of_ipv6 c.args.payload.in_bounds (sym c.in-Some-address.is ∙ c.address-in-1.ensures ∙ ap (address_of 16) c.part-in-1.ensures) in
    let all = accepted read _ _ (c.put_fields-in-Some-address.ensures.value, c.put_fields-in-Some-address.ensures.out_after) (of_type _ _ (omega arith) (omega arith) 1 c.in-1.is found) in record { value = all.0; image_after = all.1 }

pub returns-in-None-address : goal.returns-in-None-address
unfolding by_type
returns-in-None-address c =
    let lost = lost_part _ 2 16 of_ipv6 c.args.payload.in_bounds (sym c.in-None-address.is ∙ c.address-in-1.ensures ∙ ap (address_of 16) c.part-in-1.ensures) in
    let all = refusal read _ _ _ (c.put_short-in-None-address.ensures.value, c.put_short-in-None-address.ensures.out_after) (of_type _ _ (omega arith) (omega arith) 1 c.in-1.is lost) in record { value = all.0; image_after = all.1 }

pub returns-in-2 : goal.returns-in-2
unfolding by_type
returns-in-2 c = let all = same read _ _ (read_fqdn _) (c.read_name.ensures.value, c.read_name.ensures.image_after) (of_type _ _ (omega arith) (omega arith) 2 c.in-2.is refl) in record { value = all.0; image_after = all.1 }

pub returns-in_default : goal.returns-in_default
returns-in_default c = let all = refusal read _ _ _ (c.put_refused.ensures.value, c.put_refused.ensures.out_after) (typed _ _ (omega arith) (omega arith) (no_type _ _ _ (omega arith) refl)) in record { value = all.0; image_after = all.1 }
