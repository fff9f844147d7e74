-- `ue_ip_address_image::read_prefixed` meets its contract: by the rules 2 and 3, and by IPv6D.
use Prim.Native.Nat.{ℕ}
use native.Mathlib.Omega.{arith}
use mathlib.Core.Path.{◌≡◌, refl, sym, ◌∙◌}
use mathlib.Core.Bool.{Bool, true, false, ◌&&◌, ◌||◌}
use lib.ListN.{get_or}
use borrow.Author.Rules.{rules}
use Rattle.octets.specs.Octets.{bit}
use Rattle.ue_ip_address.specs.UeIpAddress.{breaks_rule1, breaks_rule2, breaks_rule3, broken_rule}
use Rattle.ue_ip_address.proofs.Rules.{rule2, rule3, no_rule}
use Rattle.ue_ip_address.proofs.Returns.{forbidden}
use Rattle.ue_ip_address_image.proofs.Reading.{refusal}
use Rattle.ue_ip_address_image.proofs.read_prefixed.Goals as goal

free : (b : ℕ) {t u : Bool} → breaks_rule1 b ≡ false → t ≡ breaks_rule2 b → t ≡ false → u ≡ breaks_rule3 b → u ≡ false → broken_rule b ≡ 0
free b k1 e2 k2 e3 k3 = sym (no_rule b refl k1 e2 k2 e3 k3)

-- just one of IPv6D and IP6PL
module _ (b : ℕ) {x : Bool} (e : x ≡ bit 3 b) where
  not_second : {t : Bool} → t ≡ breaks_rule2 b → t ≡ false → x ≡ true → (true ≡ bit 3 b) × (false ≡ bit 6 b)
  not_second q k h = let two : bit 3 b && bit 6 b ≡ false = sym q ∙ k in (sym h ∙ e, sym (rw (← e, h) at two))

  then_second : bit 3 b || bit 6 b ≡ true → x ≡ false → (false ≡ bit 3 b) × (true ≡ bit 6 b)
  then_second any h = (sym h ∙ e, sym (rw (← e, h) at any))

pub returns-then-breaks_rule_2 : goal.returns-then-breaks_rule_2
returns-then-breaks_rule_2 c =
    refusal _ _ _ c.put_flags.ensures
    (forbidden _ c.args.payload.len_bound c.args.payload.in_bounds _ _ (rule2 _ refl c.requires.keeps_rule1 c.breaks_rule_2.ensures c.if-breaks_rule_2.true) (λ z. omega arith) refl)

pub returns-then-breaks_rule_3 : goal.returns-then-breaks_rule_3
returns-then-breaks_rule_3 c =
    refusal _ _ _ c.put_flags-then-breaks_rule_3.ensures
    (forbidden _ c.args.payload.len_bound c.args.payload.in_bounds _ _ (rule3 _ refl c.requires.keeps_rule1 c.breaks_rule_2.ensures c.if-breaks_rule_2.false c.breaks_rule_3.ensures c.if-breaks_rule_3.true) (λ z. omega arith) refl)

pub read_fields-requires : goal.read_fields-requires
read_fields-requires c =
    let b = get_or c.args.payload.bytes.now 0 0 in
    let one = not_second b c.bit.ensures c.breaks_rule_2.ensures c.if-breaks_rule_2.false c.if-bit.true in record { unbroken = search free; v4_of_flags = search rules; v6_of_flags = search rules; ipv6d_of_flags = one.0; ip6pl_of_flags = one.1 }

pub read_fields-requires-2 : goal.read_fields-requires-2
read_fields-requires-2 c =
    let one = then_second (get_or c.args.payload.bytes.now 0 0) c.bit.ensures c.requires.prefixed c.if-bit.false in record { unbroken = search free; v4_of_flags = search rules; v6_of_flags = search rules; ipv6d_of_flags = one.0; ip6pl_of_flags = one.1 }
