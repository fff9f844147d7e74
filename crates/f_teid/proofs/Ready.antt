-- The ready-made records are what the builder makes of the same settings. No contract cites this file.
use Prim.Native.Nat.{ℕ}
use native.Mathlib.Omega.{arith}
use mathlib.Core.Path.{◌≡◌, refl}
use mathlib.Core.Bool.{Bool, true, false, ◌||◌}
use Rattle.answer.specs.declared.Answer.TheVariants.{Done}
use Rattle.types.specs.declared.Teid.{Teid}
use mathlib.Core.List.{List}
use Rattle.std.specs.Prelude.{Option, is_some}
use Rattle.f_teid.specs.Fteid.{made, of_choice}
use Rattle.f_teid.specs.Builder.{fresh, with_teid, with_addresses, with_choices, broken, built_of, built_by, built}

-- a TEID and one address or both
pub addresses_built : (teid : Teid) (a4 a6 : Option (List ℕ)) → is_some a4 || is_some a6 ≡ true
    → built (with_addresses (with_teid fresh teid) a4 a6) ≡ record { answer = Done; «record» = made (is_some a4) (is_some a6) teid a4 a6 }
unfolding built built_by built_of broken
addresses_built teid a4 a6 e = go (is_some a4) (is_some a6) refl refl
  where
    go : (g4 g6 : Bool) → is_some a4 ≡ g4 → is_some a6 ≡ g6 → built (with_addresses (with_teid fresh teid) a4 a6) ≡ record { answer = Done; «record» = made (is_some a4) (is_some a6) teid a4 a6 }
    go true true p q = simp (p, q)
    go true false p q = simp (p, q)
    go false true p q = simp (p, q)
    go false false p q = let f : false ≡ true = rw (p, q) at e in let z : ◌≡◌ {A = ℕ} 0 1 = cc in absurd (omega arith)

-- a choice of one address or of both
pub choice_built : (c4 c6 : Bool) → c4 || c6 ≡ true → built (with_choices fresh c4 c6) ≡ record { answer = Done; «record» = of_choice c4 c6 }
unfolding built built_by built_of broken
choice_built true true e = refl
choice_built true false e = refl
choice_built false true e = refl
choice_built false false e = let z : ◌≡◌ {A = ℕ} 0 1 = cc in absurd (omega arith)
