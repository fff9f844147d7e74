-- PFD Contents in a record image: the head, then the fields, each at its place.
use Rattle.std.specs.Prelude.{ℕ, ◌+◌, Bool, List, [], ◌∷◌, ◌++◌, length, get_or, Option, Some, None, is_some, unwrap_or}
use Rattle.answer.specs.declared.Read.{Read}
use Rattle.answer.specs.declared.Written.{Written}
use Rattle.octets.specs.Octets.{pick, bit, flag_byte}
use Rattle.kind.specs.Write.{answered, stored}
use Rattle.texts.specs.declared.Text.{Text}
use Rattle.text_fields.specs.declared.TextList.{TextList}
use Rattle.pfd_contents.specs.declared.PfdContents.{PfdContents}
use Rattle.pfd_contents.specs.PfdContents.{meaning, wire, write_refusal}
use Rattle.image.specs.Image.{little_endian_bytes, number_at, head, head_size}

-- flags, a byte, whole
abbrev pub flags_at : ℕ
flags_at = head_size

-- texts given, a byte: bit 0 flow description, 1 URL, 2 domain name, 3 custom PFD content, 4 domain name protocol
abbrev pub given_at : ℕ
given_at = flags_at + 1

-- the five texts: place in the lent texts and length, two numbers
abbrev pub flow_at : ℕ
flow_at = given_at + 1

abbrev pub url_at : ℕ
url_at = flow_at + 16

abbrev pub domain_at : ℕ
domain_at = url_at + 16

abbrev pub custom_at : ℕ
custom_at = domain_at + 16

abbrev pub protocol_at : ℕ
protocol_at = custom_at + 16

-- the additional flow descriptions, URLs, and domain names and protocols: place in the lent texts, byte length and count of a run of fields, three numbers
abbrev pub flows_at : ℕ
flows_at = protocol_at + 16

abbrev pub urls_at : ℕ
urls_at = flows_at + 24

abbrev pub names_at : ℕ
names_at = urls_at + 24

-- how long an image is
abbrev pub size : ℕ
size = names_at + 24

-- the bytes of a text, zeros where it is absent, and of a list
abbrev pub shown : Option Text → Text
shown t = unwrap_or t (record { place = 0; len = 0 })

unfoldable pub text_image : Option Text → List ℕ
text_image t = little_endian_bytes 8 (shown t).place ++ little_endian_bytes 8 (shown t).len

unfoldable pub list_image : TextList → List ℕ
list_image l = little_endian_bytes 8 l.place ++ (little_endian_bytes 8 l.len ++ little_endian_bytes 8 l.count)

-- the bytes of the five texts, and of the three lists
unfoldable pub texts_image : PfdContents → List ℕ
texts_image r =
    text_image r.flow_description
    ++ (text_image r.url
    ++ (text_image r.domain_name
    ++ (text_image r.custom_pfd_content
    ++ text_image r.domain_name_protocol)))

unfoldable pub lists_image : PfdContents → List ℕ
lists_image r =
    list_image r.additional_flow_description
    ++ (list_image r.additional_url
    ++ list_image r.additional_domain_name_and_protocol)

-- which of the texts are given
abbrev pub given : PfdContents → List Bool
given r =
    is_some r.flow_description
    ∷ is_some r.url
    ∷ is_some r.domain_name
    ∷ is_some r.custom_pfd_content
    ∷ is_some r.domain_name_protocol
    ∷ []

-- the bytes of a record
unfoldable pub record_image : PfdContents → List ℕ
record_image r = r.flags ∷ flag_byte (given r) ∷ (texts_image r ++ lists_image r)

-- the image of what a read answered
abbrev pub image_of : Read PfdContents → List ℕ
image_of r = head r.answer r.used ++ record_image r.«record»

-- the text at a place, where it is given, and the list
unfoldable pub text_at : List ℕ → ℕ → Bool → Option Text
text_at m at given = pick given (Some (record { place = number_at m at; len = number_at m (at + 8) })) None

unfoldable pub list_at : List ℕ → ℕ → TextList
list_at m at = record { place = number_at m at; len = number_at m (at + 8); count = number_at m (at + 16) }

-- the record that stands in an image
unfoldable pub record_at : List ℕ → PfdContents
record_at m =
    let isGiven : ℕ → Bool = λ k. bit k (get_or m given_at 0) in
    record {
      flags = get_or m flags_at 0;
      flow_description = text_at m flow_at (isGiven 0);
      url = text_at m url_at (isGiven 1);
      domain_name = text_at m domain_at (isGiven 2);
      custom_pfd_content = text_at m custom_at (isGiven 3);
      domain_name_protocol = text_at m protocol_at (isGiven 4);
      additional_flow_description = list_at m flows_at;
      additional_url = list_at m urls_at;
      additional_domain_name_and_protocol = list_at m names_at;
    }

-- what writing that record with the texts that are lent answers, and the output that it leaves
abbrev pub written_form : List ℕ → List ℕ → List ℕ
written_form m texts = wire (meaning texts (record_at m))

unfoldable pub writes : List ℕ → List ℕ → List ℕ → Written
writes m texts out = answered (write_refusal texts (record_at m)) (written_form m texts) (length out)

unfoldable pub stores : List ℕ → List ℕ → List ℕ → List ℕ
stores m texts out = stored (write_refusal texts (record_at m)) out (written_form m texts)
