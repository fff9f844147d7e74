-- `f_teid::broken` meets its contract: the tests that lead to each return, rule behind rule.
use mathlib.Core.Path.{◌≡◌}
use mathlib.Core.Bool.{Bool, true, false, not, ◌&&◌, ◌||◌}
use Rattle.std.specs.Prelude.{Some, None, is_some}
use Rattle.f_teid.specs.declared.FteidBuilder.{FteidBuilder}
use Rattle.f_teid.specs.Builder.{broken}
use Rattle.f_teid.proofs.broken.Goals as goal

module _ (b : FteidBuilder) (v4 v6 : Bool) (d4 : v4 ≡ is_some b.ipv4_address) (d6 : v6 ≡ is_some b.ipv6_address) (t1 : Bool) (e1 : t1 ≡ v4 && b.choose_ipv4) where
  rule1 : t1 ≡ true → Some 1 ≡ broken b
  unfolding broken
  rule1 q1 = rw (← d4, ← e1, q1)

  module _ (q1 : t1 ≡ false) (t2 : Bool) (e2 : t2 ≡ v6 && b.choose_ipv6) where
    rule2 : t2 ≡ true → Some 2 ≡ broken b
    unfolding broken
    rule2 q2 = rw (← d4, ← d6, ← e1, q1, ← e2, q2)

    module _ (q2 : t2 ≡ false) (address choice t3 : Bool) (ea : address ≡ v4 || v6) (ec : choice ≡ b.choose_ipv4 || b.choose_ipv6) (e3 : t3 ≡ address || choice) where
      rule3 : not t3 ≡ true → Some 3 ≡ broken b
      unfolding broken
      rule3 q3 = rw (← d4, ← d6, ← e1, q1, ← e2, q2, ← ea, ← ec, ← e3, q3)

      module _ (q3 : not t3 ≡ false) (t4 : Bool) (g : Bool) (d : g ≡ is_some b.choose_id) (e4 : t4 ≡ g && not choice) where
        rule4 : t4 ≡ true → Some 4 ≡ broken b
        unfolding broken
        rule4 q4 = rw (← d4, ← d6, ← e1, q1, ← e2, q2, ← ea, ← ec, ← e3, q3, ← d, ← e4, q4)

        module _ (q4 : t4 ≡ false) (t5 : Bool) (h : Bool) (d' : h ≡ is_some b.teid) (e5 : t5 ≡ h || choice) where
          rule5 : not t5 ≡ true → Some 5 ≡ broken b
          unfolding broken
          rule5 q5 = rw (← d4, ← d6, ← e1, q1, ← e2, q2, ← ea, ← ec, ← e3, q3, ← d, ← e4, q4, ← d', ← e5, q5)

          none : not t5 ≡ false → None ≡ broken b
          unfolding broken
          none q5 = rw (← d4, ← d6, ← e1, q1, ← e2, q2, ← ea, ← ec, ← e3, q3, ← d, ← e4, q4, ← d', ← e5, q5)

pub returns-then-both : goal.returns-then-both
returns-then-both c = search rule1

pub returns-then-both-2 : goal.returns-then-both-2
returns-then-both-2 c = search rule2

pub returns-then-not-either : goal.returns-then-not-either
returns-then-not-either c = search rule3

pub returns-then-both-3 : goal.returns-then-both-3
returns-then-both-3 c = search rule4

pub returns-then-not-either-2 : goal.returns-then-not-either-2
returns-then-not-either-2 c = search rule5

pub returns : goal.returns
returns c = search none
