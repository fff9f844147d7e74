-- `ue_ip_address::UeIpAddress::unmarshal` meets its contract: at each return, the tests that led there and what the calls handed over.
use native.Mathlib.Nat.{add-sub_cancel_left}
use Rattle.ue_ip_address.proofs.Rules.{rule_free}
use Rattle.ue_ip_address.proofs.Returns.{too_long, no_head, broken, no_ipv4, no_ipv6, no_bits, no_prefix, whole}
use Rattle.ue_ip_address.proofs.UeIpAddress.unmarshal.Goals as goal

pub returns-then-n-gt65535 : goal.returns-then-n-gt65535
returns-then-n-gt65535 c = search too_long

pub returns-then-n-lt-MIN_LEN : goal.returns-then-n-lt-MIN_LEN
returns-then-n-lt-MIN_LEN c = search no_head

pub returns-in-Some : goal.returns-in-Some
returns-in-Some c = search broken

pub returns-then-n-end4 : goal.returns-then-n-end4
returns-then-n-end4 c = search (no_ipv4, rule_free)

pub returns-then-n-end6 : goal.returns-then-n-end6
returns-then-n-end6 c = search (no_ipv6, rule_free)

pub returns-then-n-end_bits : goal.returns-then-n-end_bits
returns-then-n-end_bits c = search (no_bits, rule_free)

pub returns-then-n-end : goal.returns-then-n-end
returns-then-n-end c = search (no_prefix, rule_free)

pub returns : goal.returns
returns c =
    whole _ c.if-n-gt65535.false c.if-n-lt-MIN_LEN.false (rule_free _ c.broken_rule.ensures c.in_default.is)
    _ _ c.bit-v4.ensures c.if_set-end4.ensures.value
    _ _ c.bit-v6.ensures c.if_set.ensures.value
    _ _ c.bit-ipv6d.ensures c.if_set-2.ensures.value
    _ _ c.bit-ip6pl.ensures c.if_set-3.ensures.value
    _ _ _ _ _ _ _ _ _ _ _ c.if-n-end.false
    c.address.ensures (add-sub_cancel_left _ _) c.address-2.ensures (add-sub_cancel_left _ _)
    c.bit.ensures c.bit-2.ensures c.bit-3.ensures
    c.u8_of.ensures (add-sub_cancel_left _ _) c.u8_of-2.ensures (add-sub_cancel_left _ _)
