-- What the row of the reader's steps and the private functions of the writer promise: nothing here is the paper's.
use Rattle.std.specs.Prelude.{ℕ, false, ◌||◌, List, [], ◌∷◌, ◌++◌}
use Rattle.std.specs.Prelude.{Option, None, Some, Result, Ok, Err}
use Rattle.answer.specs.declared.Answer.{Answer}
use Rattle.octets.specs.Octets.{bit}
use Rattle.answer.specs.declared.Answer.TheVariants.{BadText}
use Rattle.text_fields.specs.Steps.{text_bytes, run_bytes}
use Rattle.text_fields.specs.declared.Fault.{Fault}
use Rattle.text_fields.specs.declared.Step.{Step}
use Rattle.text_fields.specs.Fields.{text, list, took}
use Rattle.pfd_contents.specs.PfdContents.{pfd_of}
use Rattle.pfd_contents.specs.declared.PfdContents.{PfdContents}

-- the written form with each list as the run that it is
unfoldable pub wire_by_runs : List ℕ → PfdContents → List ℕ
wire_by_runs texts r =
    (r.flags ∷ 0 ∷ [])
    ++ text_bytes texts r.flow_description
    ++ text_bytes texts r.url
    ++ text_bytes texts r.domain_name
    ++ text_bytes texts r.custom_pfd_content
    ++ text_bytes texts r.domain_name_protocol
    ++ run_bytes texts r.additional_flow_description
    ++ run_bytes texts r.additional_url
    ++ run_bytes texts r.additional_domain_name_and_protocol

-- the number of a field that can't be is refused with 6
abbrev pub as_refusal : Option ℕ → Option Answer
as_refusal None = None
as_refusal (Some k) = Some (BadText k)

-- the eight steps in a row, to the first fault or to the end
infixr 10 ◌onto◌
abbrev pub ◌onto◌ : {A B : Type 0} → Result (Step A) Fault → (A → ℕ → Result (Step B) Fault) → Result (Step B) Fault
Ok step onto rest = rest step.taken step.next
Err fault onto rest = Err fault

unfoldable pub eight_steps : List ℕ → ℕ → Result (Step PfdContents) Fault
eight_steps s f =
    text s (bit 0 f) 2 onto λ flow at₁.
    text s (bit 1 f) at₁ onto λ url at₂.
    text s (bit 2 f) at₂ onto λ domain at₃.
    text s (bit 3 f) at₃ onto λ custom at₄.
    text s (bit 4 f) at₄ onto λ protocol at₅.
    list s (bit 5 f) (bit 6 f || bit 7 f) at₅ onto λ flows at₆.
    list s (bit 6 f) (bit 7 f) at₆ onto λ urls at₇.
    list s (bit 7 f) false at₇ onto λ names at₈.
    took (pfd_of f flow url domain custom protocol flows urls names) at₈
