-- `ue_ip_address_image::read` meets its contract: at each return, the tests that led there and what the calls handed over.
use Prim.Native.Nat.{ℕ}
use native.Mathlib.Omega.{arith}
use mathlib.Core.Path.{◌≡◌, refl, sym, ◌∙◌}
use mathlib.Core.Bool.{Bool, false, ◌||◌}
use lib.ListN.{get_or}
use borrow.Author.Rules.{rules}
use Rattle.octets.specs.Octets.{bit}
use Rattle.ue_ip_address.specs.UeIpAddress.{breaks_rule1, broken_rule}
use Rattle.ue_ip_address.proofs.Rules.{neither, rule1}
use Rattle.ue_ip_address.proofs.Returns.{too_long, no_head, forbidden}
use Rattle.image.proofs.Laws.{read_short}
use Rattle.ue_ip_address_image.proofs.Reading.{refusal, long_enough}
use Rattle.ue_ip_address_image.proofs.read.Goals as goal

-- whether one of IPv6D and IP6PL is set
flagged : (b : ℕ) {x y t u : Bool} → x ≡ bit 3 b → y ≡ bit 6 b → t ≡ x || y → t ≡ u → bit 3 b || bit 6 b ≡ u
flagged b p q e h = rw (← p, ← q) (sym e ∙ h)

-- with neither IPv6D nor IP6PL only rule 1 can be broken
no_prefix : (b : ℕ) → breaks_rule1 b ≡ false → bit 3 b || bit 6 b ≡ false → (broken_rule b ≡ 0) × ((false ≡ bit 3 b) × (false ≡ bit 6 b))
unfolding broken_rule
no_prefix b k h = let (p3, p6) = neither (bit 3 b) (bit 6 b) h in (rw (k, p3, p6), (sym p3, sym p6))

kept : (b : ℕ) {t : Bool} → t ≡ breaks_rule1 b → t ≡ false → breaks_rule1 b ≡ false
kept b e h = sym e ∙ h

pub returns-then-image-lt-SIZE : goal.returns-then-image-lt-SIZE
returns-then-image-lt-SIZE c = let all = read_short _ _ _ c.if-image-lt-SIZE.true in record { value = all.0; image_after = all.1 }

pub returns-then-n-lt-MIN_LEN : goal.returns-then-n-lt-MIN_LEN
returns-then-n-lt-MIN_LEN c = long_enough _ _ (search rules) (refusal _ _ _ c.put_short.ensures (search no_head))

pub returns-then-n-gt65535 : goal.returns-then-n-gt65535
returns-then-n-gt65535 c = long_enough _ _ (search rules) (refusal _ _ _ c.put_refused.ensures (search too_long))

pub returns-then-breaks_rule_1 : goal.returns-then-breaks_rule_1
returns-then-breaks_rule_1 c = long_enough _ _ (search rules) (refusal _ _ _ c.put_flags.ensures
    (forbidden _ (search rules) (search rules) _ _ (rule1 _ c.breaks_rule_1.ensures c.if-breaks_rule_1.true) (λ z. omega arith) refl))

pub read_prefixed-requires : goal.read_prefixed-requires
read_prefixed-requires c =
    let b = get_or c.args.payload.now 0 0 in
    let set = flagged b c.bit.ensures c.bit-2.ensures c.either.ensures c.if-either.true in
    record { keeps_rule1 = search kept; prefixed = set }

pub returns-then-either : goal.returns-then-either
returns-then-either c = long_enough _ _ (search rules) c.read_prefixed.ensures

pub read_addresses-requires : goal.read_addresses-requires
read_addresses-requires c =
    let b = get_or c.args.payload.now 0 0 in
    let unset = flagged b c.bit.ensures c.bit-2.ensures c.either.ensures c.if-either.false in let all = no_prefix b (search kept) unset in
    record { unbroken = all.0; ipv6d_unset = all.1.0; ip6pl_unset = all.1.1 }

pub returns : goal.returns
returns c = long_enough _ _ (search rules) c.read_addresses.ensures
