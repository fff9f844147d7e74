-- PFD Contents, as document 01 has it.
use Rattle.std.specs.Prelude.{ℕ, false, ◌||◌, List, [], ◌∷◌, ◌++◌, leb, length, get_or}
use Rattle.std.specs.Prelude.{Option, None, Result, Ok, Err}
use Rattle.answer.specs.declared.Read.{Read}
use Rattle.answer.specs.declared.Answer.{Answer}
use Rattle.answer.specs.declared.Answer.TheVariants.{Done, Short, InputTooLong}
use Rattle.octets.specs.Octets.{pick, bit}
use Rattle.kind.specs.Kind.{Reader}
use Rattle.kind.specs.Write.{◌then◌, too_long_input, too_long_output}
use Rattle.text_fields.specs.Fields.{text, text_meaning, list_meaning, list, text_wire, list_wire, no_list, answer_of, bad, is_maybe, is_list}
use Rattle.texts.specs.declared.Text.{Text}
use Rattle.text_fields.specs.declared.Fault.{Fault}
use Rattle.text_fields.specs.declared.Step.{Step}
use Rattle.text_fields.specs.declared.TextList.{TextList}
use Rattle.pfd_contents.specs.declared.PfdContents.{PfdContents}

-- ---- what a record means

-- the flags byte whole, five texts that may be absent, three lists of texts
pub record Value : Type 0 where
  pub flags : ℕ
  pub flow_description : Option (List ℕ)
  pub url : Option (List ℕ)
  pub domain_name : Option (List ℕ)
  pub custom_pfd_content : Option (List ℕ)
  pub domain_name_protocol : Option (List ℕ)
  pub additional_flow_description : List (List ℕ)
  pub additional_url : List (List ℕ)
  pub additional_domain_name_and_protocol : List (List ℕ)

unfoldable pub meaning : List ℕ → PfdContents → Value
meaning texts r =
    record {
      flags = r.flags;
      flow_description = text_meaning texts r.flow_description;
      url = text_meaning texts r.url;
      domain_name = text_meaning texts r.domain_name;
      custom_pfd_content = text_meaning texts r.custom_pfd_content;
      domain_name_protocol = text_meaning texts r.domain_name_protocol;
      additional_flow_description = list_meaning texts r.additional_flow_description;
      additional_url = list_meaning texts r.additional_url;
      additional_domain_name_and_protocol = list_meaning texts r.additional_domain_name_and_protocol;
    }

-- ---- the written form

-- the flags, the spare byte as 0, and the fields in wire order
unfoldable pub wire : Value → List ℕ
wire v =
    (v.flags ∷ 0 ∷ [])
    ++ text_wire v.flow_description
    ++ text_wire v.url
    ++ text_wire v.domain_name
    ++ text_wire v.custom_pfd_content
    ++ text_wire v.domain_name_protocol
    ++ list_wire v.additional_flow_description
    ++ list_wire v.additional_url
    ++ list_wire v.additional_domain_name_and_protocol

-- ---- reading

abbrev pub pfd_of : ℕ → Option Text → Option Text → Option Text → Option Text → Option Text → TextList → TextList → TextList → PfdContents
pfd_of f flow url domain custom protocol flows urls names =
    record {
      flags = f;
      flow_description = flow;
      url = url;
      domain_name = domain;
      custom_pfd_content = custom;
      domain_name_protocol = protocol;
      additional_flow_description = flows;
      additional_url = urls;
      additional_domain_name_and_protocol = names;
    }

abbrev pub empty_pfd : PfdContents
empty_pfd = pfd_of 0 None None None None None no_list no_list no_list

-- a refused read: the empty record and used 0
unfoldable pub refused : Answer → Read PfdContents
refused a = record { answer = a; used = 0; «record» = empty_pfd }

abbrev pub accepted : ℕ → PfdContents → Read PfdContents
accepted n r = record { answer = Done; used = n; «record» = r }

-- a fault ends the reading
infixr 10 ◌into◌
abbrev pub ◌into◌ : {A : Type 0} → Result (Step A) Fault → (A → ℕ → Read PfdContents) → Read PfdContents
Ok step into rest = rest step.taken step.next
Err fault into rest = refused (answer_of fault)

-- the eight fields in wire order, behind the flags f and the spare byte
unfoldable pub read_fields : List ℕ → ℕ → Read PfdContents
read_fields s f =
    text s (bit 0 f) 2 into λ flow at₁.
    text s (bit 1 f) at₁ into λ url at₂.
    text s (bit 2 f) at₂ into λ domain at₃.
    text s (bit 3 f) at₃ into λ custom at₄.
    text s (bit 4 f) at₄ into λ protocol at₅.
    list s (bit 5 f) (bit 6 f || bit 7 f) at₅ into λ flows at₆.
    list s (bit 6 f) (bit 7 f) at₆ into λ urls at₇.
    list s (bit 7 f) false at₇ into λ names at₈.
    accepted at₈ (pfd_of f flow url domain custom protocol flows urls names)

-- the tests in their order: 5, the two bytes that come first, the fields
unfoldable pub read : List ℕ → Read PfdContents
read s = pick (leb (length s) 65535) (pick (leb 2 (length s)) (read_fields s (get_or s 0 0)) (refused (Short 0 2 (length s)))) (refused (InputTooLong (length s)))

abbrev pub reader : Reader Value
reader = record { answer = λ s. (read s).answer; used = λ s. (read s).used; value = λ s. meaning s (read s).«record» }

-- ---- what can be written

-- the fields in wire order
unfoldable pub tested : List ℕ → PfdContents → Option Answer
tested texts r =
    bad 11 (is_maybe texts r.flow_description)
    then bad 12 (is_maybe texts r.url)
    then bad 13 (is_maybe texts r.domain_name)
    then bad 14 (is_maybe texts r.custom_pfd_content)
    then bad 15 (is_maybe texts r.domain_name_protocol)
    then bad 16 (is_list texts r.additional_flow_description)
    then bad 17 (is_list texts r.additional_url)
    then bad 18 (is_list texts r.additional_domain_name_and_protocol)

-- what is tested before room: 5, 6, 7
unfoldable pub write_refusal : List ℕ → PfdContents → Option Answer
write_refusal texts r = too_long_input (length texts) then tested texts r then too_long_output (length (wire (meaning texts r)))
