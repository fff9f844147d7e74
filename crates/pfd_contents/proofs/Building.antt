-- The cases of adding an entry and of a build. No contract cites this file.
use Prim.Native.Nat.{ℕ, ◌≤◌, ◌<◌}
use native.Mathlib.Omega.{arith}
use mathlib.Core.Path.{◌≡◌, ap, sym, refl, ◌∙◌}
use mathlib.Core.List.{List, [], ◌∷◌}
use mathlib.Core.Bool.{Bool, true, false, not}
use borrow.Author.Tests.{le-leb, lt-leb}
use lib.ListN.{length}
use Rattle.answer.specs.declared.Answer.TheVariants.{Done, InputTooLong, BadText, Unbuilt}
use Rattle.octets.specs.Octets.{if_set, flag_byte}
use Rattle.kind.specs.Write.{◌then◌}
use Rattle.text_fields.specs.Fields.{is_empty}
use Rattle.pfd_contents.specs.PfdContents.{pfd_of, tested}
use Rattle.pfd_contents.specs.Steps.{as_refusal}
use Rattle.pfd_contents.specs.Builder.{added_to, built_record, fresh, built, any, unbuilt, build_refusal, built_by, present}
use Rattle.text_fields.specs.declared.TextList.{TextList}
use Rattle.pfd_contents.specs.declared.PfdContents.{PfdContents}
use Rattle.pfd_contents.specs.declared.build.PfdContentsBuilder.{PfdContentsBuilder}
use Rattle.answer.specs.declared.Built.{Built}
use Rattle.std.specs.Prelude.{Option, None, Some, is_some}
use Rattle.text_fields.specs.declared.add.ListAdded.{ListAdded}

-- ---- adding

-- an adding call is that of its list
pub add_to : (set : TextList → PfdContentsBuilder) (a step : ListAdded) (b : PfdContentsBuilder) → step ≡ a → b ≡ set step.list → record { answer = step.answer; builder = b } ≡ added_to set a
unfolding added_to
add_to set a step b e q = rw q (ap (added_to set) e)

-- ---- building

-- the flags of a builder
pub flagged : (b : PfdContentsBuilder) (f : ℕ) {g₁ g₂ g₃ g₄ g₅ e₁ e₂ e₃ : Bool}
    → g₁ ≡ is_some b.flow_description
    → g₂ ≡ is_some b.url
    → g₃ ≡ is_some b.domain_name
    → g₄ ≡ is_some b.custom_pfd_content
    → g₅ ≡ is_some b.domain_name_protocol
    → e₁ ≡ is_empty b.additional_flow_description
    → e₂ ≡ is_empty b.additional_url
    → e₃ ≡ is_empty b.additional_domain_name_and_protocol
    → f ≡ flag_byte (g₁ ∷ g₂ ∷ g₃ ∷ g₄ ∷ g₅ ∷ not e₁ ∷ not e₂ ∷ not e₃ ∷ [])
    → pfd_of f b.flow_description b.url b.domain_name b.custom_pfd_content b.domain_name_protocol b.additional_flow_description b.additional_url b.additional_domain_name_and_protocol ≡ built_record b
unfolding built_record
flagged b f q₁ q₂ q₃ q₄ q₅ p₁ p₂ p₃ q = rw (q, q₁, q₂, q₃, q₄, q₅, p₁, p₂, p₃)

-- a constructor is a build of what is set
pub set_one : (set : PfdContentsBuilder → PfdContentsBuilder) (t : List ℕ) (r : Built PfdContents) (b₀ b₁ : PfdContentsBuilder) → b₀ ≡ fresh → b₁ ≡ set b₀ → r ≡ built t b₁ → r ≡ built t (set fresh)
set_one set t r b₀ b₁ e₀ e₁ q = q ∙ ap (built t) (e₁ ∙ ap set e₀)

pub set_two : (set set' : PfdContentsBuilder → PfdContentsBuilder) (t : List ℕ) (r : Built PfdContents) (b₀ b₁ b₂ : PfdContentsBuilder) → b₀ ≡ fresh → b₁ ≡ set b₀ → b₂ ≡ set' b₁ → r ≡ built t b₂ → r ≡ built t (set' (set fresh))
set_two set set' t r b₀ b₁ b₂ e₀ e₁ e₂ q = q ∙ ap (built t) (e₂ ∙ ap set' (e₁ ∙ ap set e₀))

-- no flag is set just where nothing is there
none_set : (fs : List Bool) → flag_byte fs ≡ 0 → any fs ≡ false
unfolding flag_byte if_set
none_set [] h = refl
none_set (true ∷ fs) h = absurd (omega arith)
none_set (false ∷ fs) h = none_set fs (omega arith)

one_set : (fs : List Bool) → (flag_byte fs ≡ 0 → ⊥) → any fs ≡ true
unfolding flag_byte if_set
one_set [] h = absurd (h refl)
one_set (true ∷ fs) h = refl
one_set (false ∷ fs) h = one_set fs (λ e. h (omega arith))

module _ (t : List ℕ) (b : PfdContentsBuilder) where
  pub build_long : (r : Built PfdContents) → 65535 < length t → r ≡ unbuilt (InputTooLong (length t)) → r ≡ built t b
  unfolding built build_refusal built_by ◌then◌
  build_long r h q = rw (lt-leb _ _ h) q

  module _ (f : length t ≤ 65535) (x : PfdContents) (s : x ≡ built_record b) (n : Option ℕ) (e : as_refusal n ≡ tested t x) where
    e' : as_refusal n ≡ tested t (built_record b)
    e' = e ∙ ap (tested t) s

    pub build_bad : (r : Built PfdContents) (k : ℕ) → n ≡ Some k → r ≡ unbuilt (BadText k) → r ≡ built t b
    unfolding built build_refusal built_by ◌then◌
    build_bad r k h q = rw (le-leb _ _ f, ← e', h) q

    module _ (z : n ≡ None) where
      flags_are : x.flags ≡ flag_byte (present b)
      unfolding built_record
      flags_are = ap (λ (y : PfdContents). y.flags) s

      pub build_none : (r : Built PfdContents) → x.flags ≡ 0 → r ≡ unbuilt (Unbuilt 6) → r ≡ built t b
      unfolding built build_refusal built_by ◌then◌
      build_none r h q = rw (le-leb _ _ f, ← e', z, none_set (present b) (sym flags_are ∙ h)) q

      pub build_done : (x.flags ≡ 0 → ⊥) → record { answer = Done; «record» = x } ≡ built t b
      unfolding built build_refusal built_by ◌then◌
      build_done h = rw (le-leb _ _ f, ← e', z, one_set (present b) (λ k. h (flags_are ∙ k)), ← s)
