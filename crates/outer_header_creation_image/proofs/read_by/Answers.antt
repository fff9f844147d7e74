-- `outer_header_creation_image::read_by` meets its contract: by whether all the fields are there.
use Rattle.outer_header_creation.proofs.Returns.{cut, whole, parts, ends_asked}
use mathlib.Core.Path.{◌≡◌}
use Rattle.std.specs.Prelude.{option_map}
use Rattle.std.proofs.Common.{rules}
use Rattle.outer_header_creation_image.proofs.Reading.{refusal, accepted, teid_is, flags_of_law}
use Rattle.outer_header_creation_image.proofs.read_by.Goals as goal

pub returns-then-n-ends : goal.returns-then-n-ends
returns-then-n-ends c = let all = refusal _ _ _ (c.put_refused.ensures.value, c.put_refused.ensures.out_after) (search (cut, flags_of_law)) in record { value = all.0; image_after = all.1 }

pub returns : goal.returns
returns c =
    let s = c.args.payload.bytes.now in
    let asked = c.asked-sent.ensures in
    let ends = c.ends-ends.ensures in
    let there = c.if-n-ends.false in
    let d = c.of-description.result in
    let mapped : c.map-teid.result ≡ option_map (λ n. record { 0 = n }) c.u32_of.result = search rules in
    let teid = teid_is _ _ _ c.u32_of.ensures mapped in
    let whole_record = parts s d _ _ _ _ _ _ _ (ends_asked d _ _ asked ends.value) teid c.address-ipv4_address.ensures c.address-ipv6_address.ensures c.u16_of-port_number.ensures c.u32_of-ctag.ensures c.u32_of-stag.ensures in
    let all = accepted s _ c.put_image.ensures (whole s c.args.payload.len_bound _ _ _ (flags_of_law s _ d c.requires c.of-description.ensures) asked ends.value _ there whole_record) in
    record { value = all.0; image_after = all.1 }
