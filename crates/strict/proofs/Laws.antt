-- A field is present, and a list has an entry, where the record says so.
use Prim.Native.Nat.{ℕ, zero, suc}
use mathlib.Core.Path.{◌≡◌, refl}
use mathlib.Core.Bool.{Bool, true, false, not}
use mathlib.Core.List.{List}
use lib.Dec.{eqb, eqb-suc-zero}
use Rattle.std.specs.Prelude.{Option, Some, None, is_some}
use Rattle.octets.specs.Octets.{presence}
use Rattle.texts.specs.declared.Text.{Text}
use Rattle.text_fields.specs.Fields.{text_meaning, texts_from}
use Rattle.strict.specs.Strict.{present, non_empty}

pub present_is : {A : Type 0} (given : Bool) (x : A) → present (presence given x) ≡ given
unfolding presence
present_is true x = refl
present_is false x = refl

pub text_present : (s : List ℕ) (x : Option Text) → present (text_meaning s x) ≡ is_some x
unfolding text_meaning
text_present s None = refl
text_present s (Some t) = refl

pub non_empty_is_law : (count : ℕ) (s : List ℕ) (at : ℕ) → non_empty (texts_from count s at) ≡ not (eqb count 0)
unfolding texts_from
non_empty_is_law zero s at = refl
non_empty_is_law (suc k) s at = rw (eqb-suc-zero k)
