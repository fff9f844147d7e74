-- The rules that a first byte can break, in their order. No contract cites this file.
use Prim.Native.Nat.{ℕ, zero, suc}
use native.Mathlib.Omega.{arith}
use mathlib.Core.Path.{◌≡◌, refl, sym, ◌∙◌}
use mathlib.Core.Bool.{Bool, true, false, ◌||◌, false≢true}
use Rattle.std.specs.Prelude.{Option, Some, None}
use Rattle.octets.specs.Octets.{pick}
use Rattle.ue_ip_address.specs.UeIpAddress.{breaks_rule1, breaks_rule2, breaks_rule3, broken_rule, rule_of}

module _ (b : ℕ) {t1 : Bool} (e1 : t1 ≡ breaks_rule1 b) where
  pub rule1 : t1 ≡ true → 1 ≡ broken_rule b
  unfolding broken_rule
  rule1 h = rw (← e1, h)

  module _ {t2 : Bool} (kept1 : t1 ≡ false) (e2 : t2 ≡ breaks_rule2 b) where
    pub rule2 : t2 ≡ true → 2 ≡ broken_rule b
    unfolding broken_rule
    rule2 h = rw (← e1, kept1, ← e2, h)

    module _ {t3 : Bool} (kept2 : t2 ≡ false) (e3 : t3 ≡ breaks_rule3 b) where
      pub rule3 : t3 ≡ true → 3 ≡ broken_rule b
      unfolding broken_rule
      rule3 h = rw (← e1, kept1, ← e2, kept2, ← e3, h)

      pub no_rule : t3 ≡ false → 0 ≡ broken_rule b
      unfolding broken_rule
      no_rule h = rw (← e1, kept1, ← e2, kept2, ← e3, h)

-- by its number, a rule that is broken, or none
module _ (n : ℕ) {o : Option ℕ} (e : o ≡ rule_of n) where
  pub rule_given : (k : ℕ) → o ≡ Some k → (k ≡ n) × (k ≡ 0 → ⊥)
  unfolding rule_of
  rule_given k h = go n k (sym h ∙ e)
    where
      go : (n k : ℕ) → Some k ≡ rule_of n → (k ≡ n) × (k ≡ 0 → ⊥)
      go zero k q = absurd cc
      go (suc n) k q = let z : k ≡ suc n = cc in (z, λ y. omega arith)

  pub rule_free : o ≡ None → n ≡ 0
  unfolding rule_of
  rule_free h = go n (sym h ∙ e)
    where
      go : (n : ℕ) → None ≡ rule_of n → n ≡ 0
      go zero q = refl
      go (suc n) q = absurd cc

-- two flags that aren't set
pub neither : (a b : Bool) → a || b ≡ false → (a ≡ false) × (b ≡ false)
neither true b e = absurd (false≢true (sym e))
neither false b e = (refl, e)

-- flags that break none don't break the second
pub keeps2 : (b : ℕ) → broken_rule b ≡ 0 → breaks_rule2 b ≡ false
unfolding broken_rule
keeps2 b e = go (breaks_rule1 b) (breaks_rule2 b) (pick (breaks_rule3 b) 3 0) e
  where
    go : (t u : Bool) (n : ℕ) → ◌≡◌ {A = ℕ} (pick t 1 (pick u 2 n)) 0 → u ≡ false
    go true u n e = absurd (omega arith)
    go false true n e = absurd (omega arith)
    go false false n e = refl
