-- The written form of what a record means is made of the runs themselves. No contract cites this file.
use Prim.Native.Nat.{ℕ}
use native.Mathlib.Omega.{arith}
use mathlib.Core.Path.{◌≡◌, refl}
use mathlib.Core.List.{List}
use mathlib.Core.Bool.{Bool, true, false}
use Rattle.std.specs.Prelude.{Option, None, Some}
use Rattle.answer.specs.declared.Answer.{Answer}
use Rattle.octets.specs.Octets.{Bytes}
use Rattle.kind.specs.Write.{◌then◌}
use Rattle.text_fields.specs.Fields.{bad}
use Rattle.pfd_contents.specs.PfdContents.{tested, wire, meaning}
use Rattle.pfd_contents.specs.Steps.{wire_by_runs}
use Rattle.pfd_contents.specs.declared.PfdContents.{PfdContents}
use Rattle.text_fields.proofs.Meant.{list_wire_law}

-- ---- tests that all passed

pub passed_then : (a b : Option Answer) → (a then b) ≡ None → (a ≡ None) × (b ≡ None)
unfolding ◌then◌
passed_then None b h = (refl, h)
passed_then (Some x) b h = let z : ◌≡◌ {A = ℕ} 0 1 = cc in absurd (omega arith)

good : (k : ℕ) (g : Bool) → bad k g ≡ None → g ≡ true
good k true h = refl
good k false h = let z : ◌≡◌ {A = ℕ} 0 1 = cc in absurd (omega arith)

module _ (s : List ℕ) where
  -- a record whose fields all can be is written as its texts and its runs
  pub formed : Bytes s → (r : PfdContents) → tested s r ≡ None → wire_by_runs s r ≡ wire (meaning s r)
  unfolding tested wire_by_runs wire meaning
  formed b r h =
      let t₁ = passed_then _ _ h in
      let t₂ = passed_then _ _ t₁.1 in
      let t₃ = passed_then _ _ t₂.1 in
      let t₄ = passed_then _ _ t₃.1 in
      let t₅ = passed_then _ _ t₄.1 in
      let t₆ = passed_then _ _ t₅.1 in
      let t₇ = passed_then _ _ t₆.1 in
      rw (
        list_wire_law s b r.additional_flow_description (good 16 _ t₆.0),
        list_wire_law s b r.additional_url (good 17 _ t₇.0),
        list_wire_law s b r.additional_domain_name_and_protocol (good 18 _ t₇.1),
      )
