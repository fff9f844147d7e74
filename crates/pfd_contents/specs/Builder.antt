-- The builder of PFD Contents, as document 01 has it.
use Rattle.std.specs.Prelude.{ℕ, Bool, false, not, ◌||◌, List, [], ◌∷◌, length, is_some}
use Rattle.std.specs.Prelude.{Option, None, Some}
use Rattle.answer.specs.declared.Answer.{Answer}
use Rattle.answer.specs.declared.Built.{Built}
use Rattle.answer.specs.declared.Answer.TheVariants.{Done, Unbuilt}
use Rattle.octets.specs.Octets.{pick, flag_byte}
use Rattle.kind.specs.Write.{◌then◌, too_long_input}
use Rattle.text_fields.specs.Fields.{no_list, is_empty}
use Rattle.pfd_contents.specs.PfdContents.{pfd_of, tested, empty_pfd}
use Rattle.texts.specs.declared.Text.{Text}
use Rattle.text_fields.specs.declared.TextList.{TextList}
use Rattle.pfd_contents.specs.declared.PfdContents.{PfdContents}
use Rattle.pfd_contents.specs.declared.build.PfdContentsBuilder.{PfdContentsBuilder}
use Rattle.pfd_contents.specs.declared.build.PfdContentsAdded.{PfdContentsAdded}
use Rattle.text_fields.specs.declared.add.ListAdded.{ListAdded}

-- ---- setters

-- a builder by its fields, in wire order
abbrev pub holding : Option Text → Option Text → Option Text → Option Text → Option Text → TextList → TextList → TextList → PfdContentsBuilder
holding flow url domain custom protocol flows urls names =
    record {
      flow_description = flow;
      url = url;
      domain_name = domain;
      custom_pfd_content = custom;
      domain_name_protocol = protocol;
      additional_flow_description = flows;
      additional_url = urls;
      additional_domain_name_and_protocol = names;
    }

-- all absent and empty
abbrev pub fresh : PfdContentsBuilder
fresh = holding None None None None None no_list no_list no_list

-- a setter changes its own field and no other
abbrev pub with_flow : PfdContentsBuilder → Option Text → PfdContentsBuilder
with_flow b x = holding x b.url b.domain_name b.custom_pfd_content b.domain_name_protocol b.additional_flow_description b.additional_url b.additional_domain_name_and_protocol

abbrev pub with_url : PfdContentsBuilder → Option Text → PfdContentsBuilder
with_url b x = holding b.flow_description x b.domain_name b.custom_pfd_content b.domain_name_protocol b.additional_flow_description b.additional_url b.additional_domain_name_and_protocol

abbrev pub with_domain : PfdContentsBuilder → Option Text → PfdContentsBuilder
with_domain b x = holding b.flow_description b.url x b.custom_pfd_content b.domain_name_protocol b.additional_flow_description b.additional_url b.additional_domain_name_and_protocol

abbrev pub with_custom : PfdContentsBuilder → Option Text → PfdContentsBuilder
with_custom b x = holding b.flow_description b.url b.domain_name x b.domain_name_protocol b.additional_flow_description b.additional_url b.additional_domain_name_and_protocol

abbrev pub with_protocol : PfdContentsBuilder → Option Text → PfdContentsBuilder
with_protocol b x = holding b.flow_description b.url b.domain_name b.custom_pfd_content x b.additional_flow_description b.additional_url b.additional_domain_name_and_protocol

abbrev pub with_flows : PfdContentsBuilder → TextList → PfdContentsBuilder
with_flows b x = holding b.flow_description b.url b.domain_name b.custom_pfd_content b.domain_name_protocol x b.additional_url b.additional_domain_name_and_protocol

abbrev pub with_urls : PfdContentsBuilder → TextList → PfdContentsBuilder
with_urls b x = holding b.flow_description b.url b.domain_name b.custom_pfd_content b.domain_name_protocol b.additional_flow_description x b.additional_domain_name_and_protocol

abbrev pub with_names : PfdContentsBuilder → TextList → PfdContentsBuilder
with_names b x = holding b.flow_description b.url b.domain_name b.custom_pfd_content b.domain_name_protocol b.additional_flow_description b.additional_url x

-- ---- adding an entry

-- a builder with the list in its place
unfoldable pub added_to : (TextList → PfdContentsBuilder) → ListAdded → PfdContentsAdded
added_to set a = record { answer = a.answer; builder = set a.list }

-- ---- building

-- where a field is present or a list has an entry, in wire order
abbrev pub present : PfdContentsBuilder → List Bool
present b =
    is_some b.flow_description
    ∷ is_some b.url
    ∷ is_some b.domain_name
    ∷ is_some b.custom_pfd_content
    ∷ is_some b.domain_name_protocol
    ∷ not (is_empty b.additional_flow_description)
    ∷ not (is_empty b.additional_url)
    ∷ not (is_empty b.additional_domain_name_and_protocol)
    ∷ []

abbrev pub any : List Bool → Bool
any [] = false
any (f ∷ fs) = f || any fs

-- each flag is set just there
unfoldable pub built_record : PfdContentsBuilder → PfdContents
built_record b =
    pfd_of (flag_byte (present b)) b.flow_description b.url b.domain_name b.custom_pfd_content b.domain_name_protocol b.additional_flow_description b.additional_url b.additional_domain_name_and_protocol

-- 5, 6, then 9 with rule 6 for no field and no list entry
unfoldable pub build_refusal : List ℕ → PfdContentsBuilder → Option Answer
build_refusal texts b = too_long_input (length texts) then tested texts (built_record b) then pick (any (present b)) None (Some (Unbuilt 6))

-- a refused build: the empty record
abbrev pub unbuilt : Answer → Built PfdContents
unbuilt a = record { answer = a; «record» = empty_pfd }

unfoldable pub built_by : Option Answer → PfdContents → Built PfdContents
built_by None r = record { answer = Done; «record» = r }
built_by (Some a) r = unbuilt a

unfoldable pub built : List ℕ → PfdContentsBuilder → Built PfdContents
built texts b = built_by (build_refusal texts b) (built_record b)
