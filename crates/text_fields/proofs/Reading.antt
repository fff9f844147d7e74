-- One step of the reader, by what the code found. No contract cites this file.
use Prim.Native.Nat.{ℕ, ◌+◌}
use mathlib.Core.Path.{◌≡◌}
use mathlib.Core.List.{List}
use mathlib.Core.Bool.{Bool, true, false, not}
use borrow.Author.Tests.{not-true, not-false}
use lib.ListN.{length}
use Rattle.std.specs.Prelude.{Option, Some, None, Result, Err}
use Rattle.octets.specs.Octets.{pick}
use Rattle.texts.specs.declared.Text.{Text}
use Rattle.text_fields.specs.Fields.{text, field_at, on_field, took, list, entries, on_entries, run_of, no_list}
use Rattle.text_fields.specs.declared.Fault.{Fault}
use Rattle.text_fields.specs.declared.fields.Run.{Run}

module _ (s : List ℕ) (at : ℕ) (b on : Bool) (e : on ≡ b) where
  pub text_off : not on ≡ true → took None at ≡ text s b at
  unfolding text
  text_off h = rw (← e, not-true on h)

  pub text_on : not on ≡ false → (f g : Result (Option Text) Fault) → f ≡ field_at s at → f ≡ g → on_field g (took None at) (λ t. took (Some t) (t.place + t.len)) Err ≡ text s b at
  unfolding text
  text_on h f g p q = rw (← e, not-false on h, ← p, q)

  module _ (later : Bool) where
    pub list_off : not on ≡ true → took no_list at ≡ list s b later at
    unfolding list
    list_off h = rw (← e, not-true on h)

    pub list_on : not on ≡ false → (most : ℕ) (f g : Result Run Fault) → most ≡ pick later 1 (length s) → f ≡ entries most s at 0 → f ≡ g
        → on_entries g (λ r. took (run_of at r.next r.count) r.next) Err ≡ list s b later at
    unfolding list
    list_on h most f g m p q = rw (← e, not-false on h, ← m, ← p, q)
