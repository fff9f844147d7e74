-- What the rows of records with texts show: every field, and behind a text or a run its place, behind a run its length, where these are asked for.
use Rattle.std.specs.Prelude.{ℕ, Bool, not, ◌&&◌, List, [], ◌∷◌, eqb}
use Rattle.octets.specs.Octets.{pick}
use Rattle.rows.specs.declared.Value.{Value}
use Rattle.rows.specs.declared.Value.TheVariants.{Nothing, Signed, Listed}
use Rattle.rows.specs.Values.{given, hex_value, ipv4_value, ipv6_value, text_value}
use Rattle.node_id.specs.declared.NodeId.{NodeId}
use Rattle.node_id.specs.declared.NodeId.TheVariants.{Ipv4, Ipv6, Fqdn}
use Rattle.std.specs.Prelude.{Option, Some, None}
use Rattle.texts.specs.declared.Text.{Text}
use Rattle.text_fields.specs.declared.TextList.{TextList}
use Rattle.pfd_contents.specs.declared.PfdContents.{PfdContents}

abbrev pub type_number : NodeId → ℕ
type_number (Ipv4 a) = 0
type_number (Ipv6 a) = 1
type_number (Fqdn name) = 2

-- the address or the name
abbrev pub node_id_field : NodeId → Value
node_id_field (Ipv4 a) = ipv4_value a
node_id_field (Ipv6 a) = ipv6_value a
node_id_field (Fqdn name) = text_value name

-- the place of the name, 0 of an address
abbrev pub name_place : NodeId → ℕ
name_place (Ipv4 a) = 0
name_place (Ipv6 a) = 0
name_place (Fqdn name) = name.place

-- a number behind a sign, where it is shown
abbrev pub behind_sign : Bool → ℕ → ℕ → Value
behind_sign shown sign n = pick shown (Signed sign n) Nothing

abbrev pub node_id_values : NodeId → Bool → List Value
node_id_values n places = node_id_field n ∷ behind_sign places 0x40 (name_place n) ∷ []

abbrev pub place_of : Option Text → Bool → Value
place_of None places = Nothing
place_of (Some t) places = behind_sign places 0x40 t.place

abbrev pub list_of : TextList → Value
list_of x = Listed x.place x.count

abbrev pub run_place_of : TextList → Bool → Value
run_place_of x places = behind_sign (places && not (eqb x.count 0)) 0x40 x.place

abbrev pub run_len_of : TextList → Bool → Value
run_len_of x places = behind_sign (places && not (eqb x.count 0)) 0x2B x.len

abbrev pub pfd_contents_values : PfdContents → Bool → List Value
pfd_contents_values p places =
    hex_value 1 p.flags
    ∷ given text_value p.flow_description
    ∷ place_of p.flow_description places
    ∷ given text_value p.url
    ∷ place_of p.url places
    ∷ given text_value p.domain_name
    ∷ place_of p.domain_name places
    ∷ given text_value p.custom_pfd_content
    ∷ place_of p.custom_pfd_content places
    ∷ given text_value p.domain_name_protocol
    ∷ place_of p.domain_name_protocol places
    ∷ list_of p.additional_flow_description
    ∷ run_place_of p.additional_flow_description places
    ∷ run_len_of p.additional_flow_description places
    ∷ list_of p.additional_url
    ∷ run_place_of p.additional_url places
    ∷ run_len_of p.additional_url places
    ∷ list_of p.additional_domain_name_and_protocol
    ∷ run_place_of p.additional_domain_name_and_protocol places
    ∷ run_len_of p.additional_domain_name_and_protocol places
    ∷ []
