-- `ue_ip_address_image::read_fields` meets its contract: at each return, the tests that led there and what the calls handed over.
use native.Mathlib.Nat.{add-sub_cancel_left}
use Rattle.ue_ip_address.proofs.Returns.{no_ipv4, no_ipv6, no_byte, whole}
use Rattle.ue_ip_address_image.proofs.Reading.{refusal, accepted}
use Rattle.ue_ip_address_image.proofs.read_fields.Goals as goal

pub returns-then-n-end4 : goal.returns-then-n-end4
returns-then-n-end4 c = refusal _ _ _ c.put_short.ensures (search no_ipv4)

pub returns-then-n-end6 : goal.returns-then-n-end6
returns-then-n-end6 c = refusal _ _ _ c.put_short-then-n-end6.ensures (search no_ipv6)

pub returns-then-n-end : goal.returns-then-n-end
returns-then-n-end c = refusal _ _ _ c.put_short-then-n-end.ensures (search no_byte)

pub returns : goal.returns
returns c =
    let r = c.requires in
    let p = c.args.payload in
    accepted _ _ c.put_image.ensures
    (whole _ p.len_bound p.in_bounds r.unbroken _ _ r.v4_of_flags c.if_set-end4.ensures.value _ _ r.v6_of_flags c.if_set.ensures.value _ _ r.ipv6d_of_flags c.if_set-2.ensures.value _ _ r.ip6pl_of_flags c.if_set-3.ensures.value
    _ _ _ _ _ _ _ _ _ _ _ c.if-n-end.false
    c.address.ensures (add-sub_cancel_left _ _) c.address-2.ensures (add-sub_cancel_left _ _)
    c.bit.ensures c.bit-2.ensures c.bit-3.ensures
    c.u8_of.ensures (add-sub_cancel_left _ _) c.u8_of-2.ensures (add-sub_cancel_left _ _))
