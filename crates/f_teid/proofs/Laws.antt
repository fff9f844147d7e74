-- Where the fields of a payload end, with CH and without. No contract cites this file.
use Prim.Native.Nat.{ℕ, ◌+◌}
use native.Mathlib.Omega.{arith}
use mathlib.Core.Path.{◌≡◌}
use mathlib.Core.Bool.{true, false}
use mathlib.Core.List.{List}
use lib.ListN.{get_or}
use Rattle.octets.specs.Octets.{bit, if_set}
use Rattle.kind.proofs.Laws.{end}
use Rattle.f_teid.specs.Fteid.{layout}

-- the ends of the choose ID and of the two addresses
abbrev pub end_id : List ℕ → ℕ
end_id s = 1 + if_set (bit 3 (get_or s 0 0)) 1

abbrev pub end4 : List ℕ → ℕ
end4 s = 5 + if_set (bit 0 (get_or s 0 0)) 4

abbrev pub end6 : List ℕ → ℕ
end6 s = end4 s + if_set (bit 1 (get_or s 0 0)) 16

module _ (s : List ℕ) where
  pub chosen_ends : bit 2 (get_or s 0 0) ≡ true → end layout s ≡ end_id s
  chosen_ends ch = rw ch (omega arith)

  pub concrete_ends : bit 2 (get_or s 0 0) ≡ false → end layout s ≡ end6 s
  unfolding if_set
  concrete_ends ch = rw ch (omega arith)
