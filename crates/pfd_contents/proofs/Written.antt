-- Stores one behind the other, and the five answers of the writer. No contract cites this file.
use Prim.Native.Nat.{ℕ, ◌+◌, ◌≤◌}
use native.Mathlib.Omega.{arith}
use mathlib.Core.Path.{◌≡◌, ap, refl, ◌∙◌}
use mathlib.Core.List.{List, [], ◌∷◌}
use mathlib.Core.Bool.{Bool, true, false}
use Rattle.std.specs.Prelude.{Option, None, Some}
use lib.ListN.{length, take, drop, length-append, length-take, length-drop}
use Rattle.answer.specs.declared.Answer.{Answer}
use Rattle.octets.specs.Octets.{put}
use Rattle.kind.specs.Write.{◌then◌}
use Rattle.text_fields.specs.Fields.{bad, is_maybe, is_list}
use Rattle.text_fields.specs.Steps.{first_bad, text_bytes, run_bytes}
use Rattle.pfd_contents.specs.PfdContents.{tested}
use Rattle.pfd_contents.specs.Steps.{as_refusal, wire_by_runs}
use Rattle.text_fields.proofs.Stores.{no_text_law, some_text, field_length, Stored, more, begun}
use Rattle.texts.specs.declared.Text.{Text}
use Rattle.text_fields.specs.declared.TextList.{TextList}
use Rattle.pfd_contents.specs.declared.PfdContents.{PfdContents}

-- ---- the number of a field that can't be, and 6

-- one more field
one_more : (before : Option ℕ) (k : ℕ) (good : Bool) → as_refusal (first_bad before good k) ≡ (as_refusal before then bad k good)
unfolding ◌then◌ first_bad
one_more None k true = refl
one_more None k false = refl
one_more (Some b) k good = refl

then_assoc : (a b c : Option Answer) → ((a then b) then c) ≡ (a then (b then c))
unfolding ◌then◌
then_assoc None b c = refl
then_assoc (Some x) b c = refl

after : (before r : Option ℕ) (k : ℕ) (good : Bool) {x : Option Answer} → r ≡ first_bad before good k → as_refusal before ≡ x → as_refusal r ≡ (x then bad k good)
after before r k good e p = ap as_refusal e ∙ one_more before k good ∙ ap (λ (y : Option Answer). y then bad k good) p

pub all_tested : (t : List ℕ) (r : PfdContents) {b₁ b₂ b₃ b₄ b₅ b₆ b₇ b₈ : Option ℕ}
    → b₁ ≡ first_bad None (is_maybe t r.flow_description) 11
    → b₂ ≡ first_bad b₁ (is_maybe t r.url) 12
    → b₃ ≡ first_bad b₂ (is_maybe t r.domain_name) 13
    → b₄ ≡ first_bad b₃ (is_maybe t r.custom_pfd_content) 14
    → b₅ ≡ first_bad b₄ (is_maybe t r.domain_name_protocol) 15
    → b₆ ≡ first_bad b₅ (is_list t r.additional_flow_description) 16
    → b₇ ≡ first_bad b₆ (is_list t r.additional_url) 17
    → b₈ ≡ first_bad b₇ (is_list t r.additional_domain_name_and_protocol) 18
    → as_refusal b₈ ≡ tested t r
unfolding tested ◌then◌
all_tested t r {b₁} {b₂} {b₃} {b₄} {b₅} {b₆} {b₇} {b₈} e₁ e₂ e₃ e₄ e₅ e₆ e₇ e₈ =
    after b₇ b₈ 18 (is_list t r.additional_domain_name_and_protocol) e₈
    (after b₆ b₇ 17 (is_list t r.additional_url) e₇
    (after b₅ b₆ 16 (is_list t r.additional_flow_description) e₆
    (after b₄ b₅ 15 (is_maybe t r.domain_name_protocol) e₅
    (after b₃ b₄ 14 (is_maybe t r.custom_pfd_content) e₄
    (after b₂ b₃ 13 (is_maybe t r.domain_name) e₃
    (after b₁ b₂ 12 (is_maybe t r.url) e₂
    (after None b₁ 11 (is_maybe t r.flow_description) e₁ refl)))))))
    ∙ simp then_assoc

-- ---- how many bytes a text and a list are written as

pub none_width : (t : List ℕ) (x : Option Text) → x ≡ None → 0 ≡ length (text_bytes t x)
none_width t x h = rw (no_text_law t x h)

module _ (t : List ℕ) (x : Text) (p : List ℕ) (e : p ≡ take x.len (drop x.place t)) where
  pub text_width : length p + 2 ≡ length (text_bytes t (Some x))
  text_width = rw (some_text t x e) (omega (arith, field_length p))

  pub text_small : length t ≤ 65535 → length p + 2 ≤ 65537
  text_small g = omega (arith, ap length e, length-take x.len (drop x.place t), length-drop x.place t)

module _ (t : List ℕ) (x : TextList) (p : List ℕ) (e : p ≡ take x.len (drop x.place t)) where
  pub list_width : length p ≡ length (run_bytes t x)
  list_width = ap length e

  pub list_small : length t ≤ 65535 → length p ≤ 65535
  list_small g = omega (arith, ap length e, length-take x.len (drop x.place t), length-drop x.place t)

-- ---- the row

pub widths : (t : List ℕ) (r : PfdContents) (w₁ w₂ w₃ w₄ w₅ w₆ w₇ w₈ : ℕ)
    → w₁ ≡ length (text_bytes t r.flow_description)
    → w₂ ≡ length (text_bytes t r.url)
    → w₃ ≡ length (text_bytes t r.domain_name)
    → w₄ ≡ length (text_bytes t r.custom_pfd_content)
    → w₅ ≡ length (text_bytes t r.domain_name_protocol)
    → w₆ ≡ length (run_bytes t r.additional_flow_description)
    → w₇ ≡ length (run_bytes t r.additional_url)
    → w₈ ≡ length (run_bytes t r.additional_domain_name_and_protocol)
    → 2 + w₁ + w₂ + w₃ + w₄ + w₅ + w₆ + w₇ + w₈ ≡ length (wire_by_runs t r)
unfolding wire_by_runs
widths t r w₁ w₂ w₃ w₄ w₅ w₆ w₇ w₈ e₁ e₂ e₃ e₄ e₅ e₆ e₇ e₈ = simp length-append (omega arith)

pub all_put : (d t : List ℕ) (r : PfdContents) {o₀ o₁ o₂ o₃ o₄ o₅ o₆ o₇ o₈ : List ℕ} {a₁ a₂ a₃ a₄ a₅ a₆ a₇ a₈ : ℕ}
    → length (wire_by_runs t r) ≤ length d
    → o₀ ≡ put d 0 (r.flags ∷ 0 ∷ [])
    → Stored o₀ 2 (text_bytes t r.flow_description) a₁ o₁
    → Stored o₁ a₁ (text_bytes t r.url) a₂ o₂
    → Stored o₂ a₂ (text_bytes t r.domain_name) a₃ o₃
    → Stored o₃ a₃ (text_bytes t r.custom_pfd_content) a₄ o₄
    → Stored o₄ a₄ (text_bytes t r.domain_name_protocol) a₅ o₅
    → Stored o₅ a₅ (run_bytes t r.additional_flow_description) a₆ o₆
    → Stored o₆ a₆ (run_bytes t r.additional_url) a₇ o₇
    → Stored o₇ a₇ (run_bytes t r.additional_domain_name_and_protocol) a₈ o₈
    → o₈ ≡ put d 0 (wire_by_runs t r)
unfolding wire_by_runs
all_put d t r h e₀ e₁ e₂ e₃ e₄ e₅ e₆ e₇ e₈ =
    ((more _ (more _ (more _ (more _ (more _ (more _ (more _ (more _ (begun d _ e₀) e₁) e₂) e₃) e₄) e₅) e₆) e₇) e₈).holds h).0
