-- The table of samples says what the definitions say: computed, row by row. No contract cites this file.
use mathlib.Core.Path.{◌≡◌, refl}
use mathlib.Core.List.{List, map, flatten, Memᴰ}
use Rattle.text.specs.Utf8 as utf8
use Rattle.octets.specs.Octets.{if_set, flag_byte, behind, big_endian_bytes, presence, bytes_if, number_if, address_of, number_of}
use Rattle.kind.specs.Layout.{walk, unless_broken, outcome, clear}
use Rattle.ue_ip_address.specs.UeIpAddress as ue
use Rattle.f_teid.specs.Fteid as fteid
use Rattle.fseid.specs.Fseid as fseid
use Rattle.node_id.specs.NodeId as node
use Rattle.outer_header_creation.specs.OuterHeaderCreation as ohc
use Rattle.outer_header_creation.specs.Steps as ohcSteps
use Rattle.pfd_contents.specs.PfdContents as pfd
use Rattle.text_fields.specs.Fields.{text, list, entries, field_at, text_meaning, list_meaning, texts_from, text_wire, list_wire, field_of}
use Rattle.strict.specs.Strict.{verdict, complete}
use Rattle.strict.specs.Samples.{Sample, said_by, marked}

-- two functions that give the same of a list, one by one, agree on each of its members
each : {A B : Type 0} (f g : A → B) {x : A} {xs : List A} → map f xs ≡ map g xs → Memᴰ x xs → f x ≡ g x
each f g e (Memᴰ.head p) = rw p (cc)
each f g e (Memᴰ.tail m) = each f g (cc) m

-- what the definitions say of a payload of the table is what its row says
pub samples : (x : Sample) → Memᴰ x marked → x.kind x.payload ≡ x.said
unfolding said_by verdict clear complete outcome unless_broken walk if_set flag_byte behind big_endian_bytes presence bytes_if number_if address_of number_of ue.read ue.found ue.record_of ue.refused ue.meaning ue.wire ue.broken_rule ue.rule_of ue.choosing fteid.read fteid.found fteid.chosen_record fteid.concrete_record fteid.refused fteid.meaning fteid.wire fteid.tail fseid.read fseid.found fseid.record_of fseid.meaning fseid.wire node.read node.by_type node.read_fqdn node.refused node.meaning node.wire utf8.checked utf8.bad_len utf8.best utf8.good_len utf8.walk utf8.seq_len utf8.agree utf8.rows ohc.read ohc.found ohc.record_with ohcSteps.ends_of ohc.meaning ohc.wire ohc.sent_if flatten pfd.read pfd.read_fields text list entries field_at pfd.meaning text_meaning list_meaning texts_from pfd.wire text_wire list_wire field_of
samples x = each (λ (y : Sample). y.kind y.payload) (λ (y : Sample). y.said) refl
