-- `pfd_contents_image::record_at` meets its contract: each field from its place.
use native.Mathlib.Omega.{arith}
use Prim.Native.Nat.{ℕ}
use mathlib.Core.Path.{◌≡◌}
use mathlib.Core.Bool.{Bool}
use mathlib.Core.List.{List}
use lib.ListN.{get_or}
use Rattle.octets.specs.Octets.{bit}
use Rattle.std.specs.Prelude.{Option}
use Rattle.texts.specs.declared.Text.{Text}
use Rattle.text_fields.specs.declared.TextList.{TextList}
use Rattle.pfd_contents_image.specs.PfdContentsImage.{flags_at, given_at, flow_at, url_at, domain_at, custom_at, protocol_at, flows_at, urls_at, names_at, text_at, list_at, record_at}
use Rattle.pfd_contents_image.proofs.record_at.Goals as goal

found : (m : List ℕ) (f g : ℕ) (b0 b1 b2 b3 b4 : Bool) (flow url domain custom protocol : Option Text) (flows urls names : TextList)
    → f ≡ get_or m flags_at 0
    → g ≡ get_or m given_at 0
    → b0 ≡ bit 0 g
    → flow ≡ text_at m flow_at b0
    → b1 ≡ bit 1 g
    → url ≡ text_at m url_at b1
    → b2 ≡ bit 2 g
    → domain ≡ text_at m domain_at b2
    → b3 ≡ bit 3 g
    → custom ≡ text_at m custom_at b3
    → b4 ≡ bit 4 g
    → protocol ≡ text_at m protocol_at b4
    → flows ≡ list_at m flows_at
    → urls ≡ list_at m urls_at
    → names ≡ list_at m names_at
    → record { flags = f; flow_description = flow; url = url; domain_name = domain; custom_pfd_content = custom; domain_name_protocol = protocol; additional_flow_description = flows; additional_url = urls; additional_domain_name_and_protocol = names } ≡ record_at m
unfolding record_at
found m f g b0 b1 b2 b3 b4 flow url domain custom protocol flows urls names q0 q1 q2 q3 q4 q5 q6 q7 q8 q9 q10 q11 q12 q13 q14 =
    rw (q14, q13, q12, q11, q10, q9, q8, q7, q6, q5, q4, q3, q2, q1, q0)

pub list_at-requires : goal.list_at-requires
list_at-requires c = omega (arith, c.requires)

pub list_at-requires-2 : goal.list_at-requires-2
list_at-requires-2 c = omega (arith, c.requires)

pub list_at-requires-3 : goal.list_at-requires-3
list_at-requires-3 c = omega (arith, c.requires)

pub returns : goal.returns
returns c =
    let c15 = c in
    let c14 = c15.before in
    let c13 = c14.before in
    let c12 = c13.before in
    let c11 = c12.before in
    let c10 = c11.before in
    let c9 = c10.before in
    let c8 = c9.before in
    let c7 = c8.before in
    let c6 = c7.before in
    let c5 = c6.before in
    let c4 = c5.before in
    let c3 = c4.before in
    let c2 = c3.before in
    let c1 = c2.before in
    found _ _ _ _ _ _ _ _ _ _ _ _ _ _ _ _ c1.byte_at-flags.ensures c2.byte_at-given.ensures c3.bit.ensures c4.text_at.ensures c5.bit-2.ensures c6.text_at-2.ensures c7.bit-3.ensures c8.text_at-3.ensures c9.bit-4.ensures c10.text_at-4.ensures c11.bit-5.ensures c12.text_at-5.ensures c13.list_at.ensures c14.list_at-2.ensures c15.list_at-3.ensures
