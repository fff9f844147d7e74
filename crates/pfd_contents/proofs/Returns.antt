-- What `read` says at each return of the reader; the row of eight steps comes to `read_fields`. No contract cites this file.
use Prim.Native.Nat.{ℕ, ◌≤◌, ◌<◌}
use mathlib.Core.Path.{◌≡◌, ap, sym, refl, ◌∙◌}
use mathlib.Core.List.{List}
use borrow.Author.Tests.{le-leb, lt-leb}
use lib.ListN.{length, get_or}
use Rattle.std.specs.Prelude.{Result, Ok, Err}
use Rattle.answer.specs.declared.Answer.TheVariants.{Short, InputTooLong}
use Rattle.answer.specs.declared.Read.{Read}
use mathlib.Core.Bool.{false, ◌||◌}
use Rattle.octets.specs.Octets.{bit}
use Rattle.text_fields.specs.Fields.{text, list, took, answer_of}
use Rattle.text_fields.specs.declared.Fault.{Fault}
use Rattle.text_fields.specs.declared.Step.{Step}
use Rattle.pfd_contents.specs.PfdContents.{refused, accepted, pfd_of, ◌into◌, read, read_fields}
use Rattle.pfd_contents.specs.Steps.{◌onto◌, eight_steps}
use Rattle.pfd_contents.specs.declared.PfdContents.{PfdContents}

-- ---- the row

-- a step that took something, and one that met a fault
module _ {A B : Type 0} {x y : Result (Step A) Fault} (e : x ≡ y) (rest : A → ℕ → Result (Step B) Fault) where
  pub onward : {step : Step A} → x ≡ Ok step → (y onto rest) ≡ rest step.taken step.next
  onward k = rw (← e, k)

  pub stopped : {fault : Fault} → x ≡ Err fault → (y onto rest) ≡ Err fault
  stopped k = rw (← e, k)

-- a row of steps as a read
abbrev pub as_read : Result (Step PfdContents) Fault → Read PfdContents
as_read steps = steps into λ taken next. accepted next taken

read_onto : {A : Type 0} (x : Result (Step A) Fault) (rest : A → ℕ → Result (Step PfdContents) Fault) (then-read : A → ℕ → Read PfdContents)
    → ((taken : A) (next : ℕ) → as_read (rest taken next) ≡ then-read taken next) → as_read (x onto rest) ≡ (x into then-read)
read_onto (Ok step) rest then-read h = h step.taken step.next
read_onto (Err fault) rest then-read h = refl

rows : (s : List ℕ) (f : ℕ) → as_read (eight_steps s f) ≡ read_fields s f
unfolding eight_steps read_fields
rows s f =
    read_onto (text s (bit 0 f) 2) _ _ (λ x₁ n₁.
    read_onto (text s (bit 1 f) n₁) _ _ (λ x₂ n₂.
    read_onto (text s (bit 2 f) n₂) _ _ (λ x₃ n₃.
    read_onto (text s (bit 3 f) n₃) _ _ (λ x₄ n₄.
    read_onto (text s (bit 4 f) n₄) _ _ (λ x₅ n₅.
    read_onto (list s (bit 5 f) (bit 6 f || bit 7 f) n₅) _ _ (λ x₆ n₆.
    read_onto (list s (bit 6 f) (bit 7 f) n₆) _ _ (λ x₇ n₇.
    read_onto (list s (bit 7 f) false n₇) (λ x₈ n₈. took (pfd_of f x₁ x₂ x₃ x₄ x₅ x₆ x₇ x₈) n₈) (λ x₈ n₈. accepted n₈ (pfd_of f x₁ x₂ x₃ x₄ x₅ x₆ x₇ x₈)) (λ x₈ n₈. refl))))))))

pub as_fields : (s : List ℕ) (f : ℕ) {x y : Result (Step PfdContents) Fault} → x ≡ eight_steps s f → x ≡ y → as_read y ≡ read_fields s f
as_fields s f e k = ap as_read (sym k ∙ e) ∙ rows s f

-- ---- by the length, then by the fields

module _ (s : List ℕ) (r : Read PfdContents) where
  pub too_long : 65535 < length s → r ≡ refused (InputTooLong (length s)) → r ≡ read s
  unfolding read
  too_long h q = rw (lt-leb _ _ h) q

  pub too_short : length s ≤ 65535 → length s < 2 → r ≡ refused (Short 0 2 (length s)) → r ≡ read s
  unfolding read
  too_short h k q = rw (le-leb _ _ h, lt-leb _ _ k) q

  pub enough : length s ≤ 65535 → 2 ≤ length s → r ≡ read_fields s (get_or s 0 0) → r ≡ read s
  unfolding read
  enough h k q = rw (le-leb _ _ h, le-leb _ _ k) q
