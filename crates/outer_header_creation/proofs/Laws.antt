-- Where the fields end, what is written under a flag, and what is written of what was read. No contract cites this file.
use Prim.Native.Nat.{ℕ, ◌<◌}
use native.Mathlib.Omega.{arith}
use mathlib.Core.Path.{◌≡◌, refl, ap}
use mathlib.Core.Bool.{Bool, true, false}
use mathlib.Core.List.{List, [], ◌∷◌}
use Rattle.std.specs.Prelude.{Option, None, Some, option_map, unwrap_or}
use Rattle.std.specs.Bool.{then_some}
use lib.ListN.{length, get_or}
use Rattle.types.specs.declared.Teid.{Teid}
use Rattle.octets.specs.Octets.{pick, if_set, big_endian_bytes, number_if}
use Rattle.outer_header_creation.specs.declared.FieldEnds.{FieldEnds}
use Rattle.outer_header_creation.specs.declared.OuterHeaderCreation.{OuterHeaderCreation}
use Rattle.outer_header_creation.specs.OuterHeaderCreation.{Flags, flags_of, asked, sent_if, untagged}
use Rattle.outer_header_creation.specs.Steps.{ends_of}

-- where the fields that a payload's first byte asks for end
abbrev pub ends : List ℕ → FieldEnds
ends s = ends_of (asked (flags_of (get_or s 0 0)))

-- ---- what is written under a flag

-- an address or a tag, where it is given too
pub sent_given : {A : Type 0} (bytes : Option A → List ℕ) → bytes None ≡ [] → (f : Bool) (o : Option A) → bytes (pick f o None) ≡ sent_if f (bytes o)
unfolding sent_if
sent_given bytes e true o = refl
sent_given bytes e false o = e

-- a TEID or a port, as 0 where it is absent
pub sent_anyway : (w : ℕ) (f : Bool) (o : Option ℕ) → number_if w (then_some f (unwrap_or o 0)) ≡ sent_if f (big_endian_bytes w (unwrap_or o 0))
unfolding number_if sent_if
sent_anyway w true o = refl
sent_anyway w false o = refl

-- the number of a TEID
pub teid_anyway : (f : Bool) (o : Option Teid) → option_map (λ t. t.0) (then_some f (unwrap_or o (record { 0 = 0 }))) ≡ then_some f (unwrap_or (option_map (λ t. t.0) o) 0)
teid_anyway true (Some t) = refl
teid_anyway true None = refl
teid_anyway false o = refl

-- ---- what was read is written as it stood
module _ (f : Bool) (w : ℕ) (bs : List ℕ) (e : length bs ≡ if_set f w) where
  no_bytes : (bs : List ℕ) → length bs ≡ 0 → [] ≡ bs
  no_bytes [] h = refl
  no_bytes (b ∷ bs) h = absurd (omega arith)

  pub back_given : (xs : List ℕ) → xs ≡ bs → sent_if f xs ≡ bs
  unfolding sent_if if_set
  back_given xs q = go f e
    where
      go : (f : Bool) → length bs ≡ if_set f w → sent_if f xs ≡ bs
      go true e = q
      go false e = no_bytes bs e

  pub back_anyway : (o : Option ℕ) → 0 < w → number_if w o ≡ bs → sent_if f (big_endian_bytes w (unwrap_or o 0)) ≡ bs
  unfolding sent_if if_set number_if
  back_anyway o h q = go f o e q
    where
      go : (f : Bool) (o : Option ℕ) → length bs ≡ if_set f w → number_if w o ≡ bs → sent_if f (big_endian_bytes w (unwrap_or o 0)) ≡ bs
      go true None e q = absurd (omega (arith, ap length q))
      go true (Some x) e q = q
      go false o e q = no_bytes bs e

-- ---- a record of parts that calls handed over
pub of_parts : (r : OuterHeaderCreation) (f f' : Flags) (t t' : Option Teid) (a a' b b' : Option (List ℕ)) (p p' : Option ℕ)
    → r ≡ untagged f t a b p
    → f ≡ f'
    → t ≡ t'
    → a ≡ a'
    → b ≡ b'
    → p ≡ p'
    → r ≡ untagged f' t' a' b' p'
of_parts r f f' t t' a a' b b' p p' q e1 e2 e3 e4 e5 = rw (e1, e2, e3, e4, e5) at q
