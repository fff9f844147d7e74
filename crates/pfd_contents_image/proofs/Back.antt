-- What stands in the image of a read is the record that was read, and writing it gives the cleared payload. No contract cites this file.
use Prim.Native.Nat.{ℕ, zero, suc, ◌+◌, ◌^◌, ◌≤◌, ◌<◌}
use native.Mathlib.Omega.{arith}
use mathlib.Core.Path.{◌≡◌, refl, sym, ap, ◌∙◌}
use mathlib.Core.Bool.{Bool, true, false, ◌||◌}
use mathlib.Core.List.{List, ◌++◌}
use Rattle.std.specs.Prelude.{Option, Some, None, Result, Ok, Err, is_some}
use Rattle.answer.specs.declared.Read.{Read}
use lib.Dec.{leb}
use lib.ListN.{length, get_or, length-append}
use borrow.Author.Tests.{leb-true}
use Rattle.answer.specs.declared.Answer.{Answer}
use Rattle.octets.specs.Octets.{pick, bit}
use Rattle.kind.specs.Write.{answered, stored}
use Rattle.texts.specs.declared.Text.{Text}
use Rattle.text_fields.specs.declared.Step.{Step}
use Rattle.text_fields.specs.declared.TextList.{TextList}
use Rattle.text_fields.specs.declared.Fault.{Fault}
use Rattle.text_fields.specs.declared.Fault.TheVariants.{Past, Garbled}
use Rattle.text_fields.specs.declared.fields.Run.{Run}
use Rattle.text_fields.specs.Fields.{field_at, on_field, entries, run, on_entries, no_list, run_of, took, text, list}
use Rattle.text_fields.proofs.Runs.{whole_end}
use Rattle.pfd_contents.specs.declared.PfdContents.{PfdContents}
use Rattle.pfd_contents.specs.PfdContents.{meaning, wire, pfd_of, empty_pfd, refused, ◌into◌, read_fields, read, write_refusal}
use Rattle.pfd_contents.proofs.OfKind.{kind, writable}
use Rattle.image.specs.Image.{little_endian_bytes, number_at, read_image}
use Rattle.image.proofs.Back.{Stands, flag_back, apart, last, byte, number, ImageOf, image_left, Again}
use Rattle.image.proofs.Back as image
use Rattle.pfd_contents_image.specs.PfdContentsImage.{size, shown, text_image, list_image, texts_image, lists_image, given, record_image, image_of, text_at, list_at, record_at, written_form, writes, stores}
use Rattle.pfd_contents_image.proofs.Laws.{length_text, length_list}

-- ---- a text and a list are read back, where their numbers have their bytes
abbrev SmallText : Option Text → Type 0
SmallText t = ((shown t).place < 256 ^ 8) × ((shown t).len < 256 ^ 8)

abbrev SmallList : TextList → Type 0
SmallList l = (l.place < 256 ^ 8) × (l.len < 256 ^ 8) × (l.count < 256 ^ 8)

module _ {m ys : List ℕ} {at : ℕ} where
  text_back : (t : Option Text) → SmallText t → Stands m at (text_image t ++ ys) → (text_at m at (is_some t) ≡ t) × Stands m (at + 8 + 8) ys
  unfolding text_image text_at
  text_back t (p, l) h =
      let (e₀, h₁) = number (shown t).place p (apart (little_endian_bytes 8 (shown t).place) (little_endian_bytes 8 (shown t).len) ys h) in
      let (e₁, h₂) = number (shown t).len l h₁ in
      (go t e₀ e₁, h₂)
    where
      go : (t : Option Text) → number_at m at ≡ (shown t).place → number_at m (at + 8) ≡ (shown t).len
          → pick (is_some t) (Some (record { place = number_at m at; len = number_at m (at + 8) })) None ≡ t
      go None e₀ e₁ = refl
      go (Some t) e₀ e₁ = rw (e₀, e₁)

  list_back : (l : TextList) → SmallList l → Stands m at (list_image l ++ ys) → (list_at m at ≡ l) × Stands m (at + 8 + 8 + 8) ys
  unfolding list_image list_at
  list_back l (p, n, c) h =
      let (e₀, h₁) = number l.place p (apart (little_endian_bytes 8 l.place) (little_endian_bytes 8 l.len ++ little_endian_bytes 8 l.count) ys h) in
      let (e₁, h₂) = number l.len n (apart (little_endian_bytes 8 l.len) (little_endian_bytes 8 l.count) ys h₁) in
      let (e₂, h₃) = number l.count c h₂ in
      let sum : at + 16 ≡ at + 8 + 8 = omega arith in
      let e₃ : number_at m (at + 16) ≡ l.count = ap (number_at m) sum ∙ e₂ in
      (rw (e₀, e₁, e₃), h₃)

-- ---- the record
abbrev Kept : PfdContents → Type 0
Kept r = ImageOf 154 record_at (record_image r) r

laid : (r : PfdContents)
    → SmallText r.flow_description
    → SmallText r.url
    → SmallText r.domain_name
    → SmallText r.custom_pfd_content
    → SmallText r.domain_name_protocol
    → SmallList r.additional_flow_description
    → SmallList r.additional_url
    → SmallList r.additional_domain_name_and_protocol
    → Kept r
unfolding record_image record_at texts_image lists_image
laid r s₁ s₂ s₃ s₄ s₅ s₆ s₇ s₈ =
    record {
      size_is = simp (length-append, length_text, length_list) (omega arith);
      found = λ m h.
          let t₁ = text_image r.flow_description in
          let t₂ = text_image r.url in
          let t₃ = text_image r.domain_name in
          let t₄ = text_image r.custom_pfd_content in
          let t₅ = text_image r.domain_name_protocol in
          let ls = lists_image r in
          let (f, h₀) = byte h in
          let (g, h₁) = byte h₀ in
          let (e₁, h₂) = text_back r.flow_description s₁ (apart t₁ (t₂ ++ (t₃ ++ (t₄ ++ t₅))) ls h₁) in
          let (e₂, h₃) = text_back r.url s₂ (apart t₂ (t₃ ++ (t₄ ++ t₅)) ls h₂) in
          let (e₃, h₄) = text_back r.domain_name s₃ (apart t₃ (t₄ ++ t₅) ls h₃) in
          let (e₄, h₅) = text_back r.custom_pfd_content s₄ (apart t₄ t₅ ls h₄) in
          let (e₅, h₆) = text_back r.domain_name_protocol s₅ h₅ in
          let (e₆, h₇) = list_back r.additional_flow_description s₆ h₆ in
          let (e₇, h₈) = list_back r.additional_url s₇ h₇ in
          let (e₈, h₉) = list_back r.additional_domain_name_and_protocol s₈ (last h₈) in
          rw (
            f,
            g,
            flag_back (given r) 0,
            flag_back (given r) 1,
            flag_back (given r) 2,
            flag_back (given r) 3,
            flag_back (given r) 4,
            e₁,
            e₂,
            e₃,
            e₄,
            e₅,
            e₆,
            e₇,
            e₈,
          );
    }

-- ---- what a step of the reader takes lies within the payload
module _ (s : List ℕ) (short : length s ≤ 65535) where
  -- what is said of what a step took, and of the place behind it
  abbrev Within : {A : Type 0} → (A → Type 0) → Result (Step A) Fault → Type 0
  Within Small (Ok step) = Small step.taken × (step.next ≤ length s)
  Within Small (Err fault) = Unit

  -- by the field at a place: none, one that ends within the payload, or a fault
  by_field : {A : Type 0} (P : A → Type 0) (at : ℕ) (absent : A) (whole : Text → A) (faulty : Fault → A) → P absent
      → ((t : Text) → at + 2 ≤ t.place → t.place + t.len ≤ length s → P (whole t)) → ((x : Fault) → P (faulty x)) → P (on_field (field_at s at) absent whole faulty)
  by_field P at absent whole faulty a w f = go (field_at s at) refl
    where
      go : (g : Result (Option Text) Fault) → field_at s at ≡ g → P (on_field g absent whole faulty)
      go (Ok None) q = a
      go (Ok (Some t)) q = let e = whole_end s at (sym q) refl in w t (omega arith) (omega arith)
      go (Err x) q = f x

  text_within : (flag : Bool) (at : ℕ) → at ≤ length s → Within SmallText (text s flag at)
  unfolding text
  text_within false at h = ((omega arith, omega arith), h)
  text_within true at h =
      by_field (Within SmallText) at _ (λ t. took (Some t) (t.place + t.len)) _ ((omega arith, omega arith), h)
      (λ t h w. ((omega arith, omega arith), w))
      (λ x. tt)

  -- a run has no more fields than bytes
  abbrev RunWithin : Result Run Fault → Type 0
  RunWithin (Ok r) = (r.count ≤ r.next) × (r.next ≤ length s)
  RunWithin (Err fault) = Unit

  run_within : (most at count : ℕ) → at ≤ length s → count ≤ at → RunWithin (entries most s at count)
  unfolding entries
  run_within zero at count h k = (k, h)
  run_within (suc most) at count h k =
      by_field RunWithin at (run count at) (λ t. entries most s (t.place + t.len) (count + 1)) Err (k, h)
      (λ t h w. run_within most (t.place + t.len) (count + 1) w (omega arith))
      (λ x. tt)

  list_within : (flag later : Bool) (at : ℕ) → at ≤ length s → Within SmallList (list s flag later at)
  unfolding list
  list_within false later at h = ((omega arith, omega arith, omega arith), h)
  list_within true later at h = go (entries (pick later 1 (length s)) s at 0) (run_within (pick later 1 (length s)) at 0 h (omega arith))
    where
      go : (e : Result Run Fault) → RunWithin e → Within SmallList (on_entries e (λ r. took (run_of at r.next r.count) r.next) Err)
      go (Ok r) (k, w) = ((omega arith, omega arith, omega arith), w)
      go (Err fault) k = tt

-- ---- and so the record of every read
abbrev Fine : Read PfdContents → Type 0
Fine x = Kept x.«record»

not_read : (a : Answer) → Fine (refused a)
unfolding refused
not_read a =
    let t : SmallText None = (omega arith, omega arith) in
    let l : SmallList no_list = (omega arith, omega arith, omega arith) in
    laid empty_pfd t t t t t l l l

fine_into : {A : Type 0} (s : List ℕ) (short : length s ≤ 65535) (Small : A → Type 0) (x : Result (Step A) Fault) (rest : A → ℕ → Read PfdContents) → Within s short Small x
    → ((a : A) (n : ℕ) → Small a → n ≤ length s → Fine (rest a n)) → Fine (x into rest)
fine_into s short Small (Ok step) rest (k, h) f = f step.taken step.next k h
fine_into s short Small (Err (Past e l)) rest k f = not_read _
fine_into s short Small (Err (Garbled p b)) rest k f = not_read _

of_fields : (s : List ℕ) (f : ℕ) → length s ≤ 65535 → 2 ≤ length s → Fine (read_fields s f)
unfolding read_fields
of_fields s f short h =
    fine_into s short SmallText (text s (bit 0 f) 2) _ (text_within s short (bit 0 f) 2 h) (λ x₁ n₁ k₁ h₁.
    fine_into s short SmallText (text s (bit 1 f) n₁) _ (text_within s short (bit 1 f) n₁ h₁) (λ x₂ n₂ k₂ h₂.
    fine_into s short SmallText (text s (bit 2 f) n₂) _ (text_within s short (bit 2 f) n₂ h₂) (λ x₃ n₃ k₃ h₃.
    fine_into s short SmallText (text s (bit 3 f) n₃) _ (text_within s short (bit 3 f) n₃ h₃) (λ x₄ n₄ k₄ h₄.
    fine_into s short SmallText (text s (bit 4 f) n₄) _ (text_within s short (bit 4 f) n₄ h₄) (λ x₅ n₅ k₅ h₅.
    fine_into s short SmallList (list s (bit 5 f) (bit 6 f || bit 7 f) n₅) _ (list_within s short (bit 5 f) (bit 6 f || bit 7 f) n₅ h₅) (λ x₆ n₆ k₆ h₆.
    fine_into s short SmallList (list s (bit 6 f) (bit 7 f) n₆) _ (list_within s short (bit 6 f) (bit 7 f) n₆ h₆) (λ x₇ n₇ k₇ h₇.
    fine_into s short SmallList (list s (bit 7 f) false n₇) _ (list_within s short (bit 7 f) false n₇ h₇) (λ x₈ n₈ k₈ h₈.
    laid (pfd_of f x₁ x₂ x₃ x₄ x₅ x₆ x₇ x₈) k₁ k₂ k₃ k₄ k₅ k₆ k₇ k₈))))))))

fine_either : (t : Bool) (x y : Read PfdContents) → (t ≡ true → Fine x) → Fine y → Fine (pick t x y)
fine_either true x y f g = f refl
fine_either false x y f g = g

of_read : (s : List ℕ) → Fine (read s)
unfolding read
of_read s =
    fine_either (leb (length s) 65535) _ _
    (λ t. fine_either (leb 2 (length s)) _ _ (λ u. of_fields s (get_or s 0 0) (leb-true _ _ t) (leb-true _ _ u)) (not_read _))
    (not_read _)

-- the memory that a read of s left
abbrev pub left : List ℕ → List ℕ → List ℕ
left s d = read_image size d (image_of (read s))

-- the record that stands there is the one that was read
pub record_in_image : (s d : List ℕ) → size ≤ length d → record_at (left s d) ≡ (read s).«record»
record_in_image s d room = image_left 154 (of_read s) _ _ d room

-- and so, where the read was done, writing it again with the same texts gives the cleared payload
pub again : Again kind size left written_form writes stores
unfolding writes stores answered stored
again =
    image.again kind size left _ _ _ (λ s v n r d room. ap (λ (x : PfdContents). wire (meaning s x)) (record_in_image s d room) ∙ ap wire r.value) (λ s v n r d room out.
    let test : write_refusal s (record_at (left s d)) ≡ None = ap (write_refusal s) (record_in_image s d room) ∙ writable r in
    rw test (refl, refl))
