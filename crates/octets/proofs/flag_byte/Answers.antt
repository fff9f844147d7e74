-- `octets::flag_byte` meets its contract: each weight is the flag times its power of two.
use Prim.Native.Nat.{ℕ, ◌+◌}
use native.Mathlib.Omega.{arith}
use mathlib.Core.Path.{◌≡◌}
use mathlib.Core.Bool.{Bool}
use mathlib.Core.List.{[], ◌∷◌}
use Rattle.octets.specs.Octets.{if_set, flag_byte}
use Rattle.octets.proofs.Laws.{if_set_times_law}
use Rattle.octets.proofs.flag_byte.Goals as goal

eight : (f0 f1 f2 f3 f4 f5 f6 f7 : Bool) (u0 u1 u2 u3 u4 u5 u6 u7 : ℕ)
    → u0 ≡ if_set f0 1 → u1 ≡ if_set f1 2 → u2 ≡ if_set f2 4 → u3 ≡ if_set f3 8 → u4 ≡ if_set f4 16 → u5 ≡ if_set f5 32 → u6 ≡ if_set f6 64 → u7 ≡ if_set f7 128
    → u0 + u1 + u2 + u3 + (u4 + u5 + u6 + u7) ≡ flag_byte (f0 ∷ f1 ∷ f2 ∷ f3 ∷ f4 ∷ f5 ∷ f6 ∷ f7 ∷ [])
unfolding flag_byte
eight f0 f1 f2 f3 f4 f5 f6 f7 u0 u1 u2 u3 u4 u5 u6 u7 e0 e1 e2 e3 e4 e5 e6 e7 =
    omega (arith, if_set_times_law f1 2, if_set_times_law f2 4, if_set_times_law f3 8, if_set_times_law f4 16, if_set_times_law f5 32, if_set_times_law f6 64, if_set_times_law f7 128)

pub returns : goal.returns
returns c = search eight
