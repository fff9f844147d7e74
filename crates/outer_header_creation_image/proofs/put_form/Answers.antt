-- `outer_header_creation_image::put_form` meets its contract: eight puts in a row are one put of the form.
use Prim.Native.Nat.{ℕ, ◌+◌, ◌%◌, ◌≤◌}
use native.Mathlib.Omega.{arith}
use mathlib.Core.Path.{◌≡◌, ap, ◌∙◌}
use mathlib.Core.Bool.{Bool}
use mathlib.Core.List.{List}
use lib.ListN.{length}
use Rattle.std.proofs.Common.{rules}
use Rattle.octets.specs.Octets.{bit, if_set}
use Rattle.octets.proofs.Laws.{if_set_le_law, length_put}
use Rattle.image.specs.Image.{number_at}
use Rattle.outer_header_creation_image.specs.OuterHeaderCreationImage.{teid_at, port_at, ctag_at, stag_at}
use Rattle.outer_header_creation_image.proofs.Writing.{Parts, last, stored}
use Rattle.outer_header_creation_image.proofs.put_form.Goals as goal

-- where a field ends at most
most : (at w n : ℕ) (sent : Bool) → n ≡ at + if_set sent w → n ≤ at + w
most at w n sent e = omega (arith, if_set_le_law sent w)

-- the numbers that stand in an image, as they are put
teid_is : (m : List ℕ) (at g x u : ℕ) (b : Bool) → x ≡ number_at m at → b ≡ bit 2 g → u ≡ if_set b (x % 4294967296) → u ≡ if_set (bit 2 g) (number_at m at % 4294967296)
teid_is m at g x u b p q e = rw (e, q, p)

port_is : (m : List ℕ) (at g x u : ℕ) (b : Bool) → x ≡ number_at m at → b ≡ bit 3 g → u ≡ if_set b (x % 65536) → u ≡ if_set (bit 3 g) (number_at m at % 65536)
port_is m at g x u b p q e = rw (e, q, p)

tag_is : (m : List ℕ) (at x : ℕ) → x ≡ number_at m at → x % 4294967296 ≡ number_at m at % 4294967296
tag_is m at x p = rw p

pub put_address_sent-end_ipv4-requires : goal.put_address_sent-end_ipv4-requires
put_address_sent-end_ipv4-requires c = omega (arith, most _ _ _ _ c.put_number_sent-end_teid.ensures.value)

pub put_address_sent-end_ipv6-requires : goal.put_address_sent-end_ipv6-requires
put_address_sent-end_ipv6-requires c =
    omega (arith, most _ _ _ _ c.put_address_sent-end_ipv4.ensures.value, most _ _ _ _ c.put_number_sent-end_teid.ensures.value)

pub put_number_sent-end_port-requires : goal.put_number_sent-end_port-requires
put_number_sent-end_port-requires c =
    omega (arith, most _ _ _ _ c.put_address_sent-end_ipv6.ensures.value, most _ _ _ _ c.put_address_sent-end_ipv4.ensures.value, most _ _ _ _ c.put_number_sent-end_teid.ensures.value)

pub put_number_sent-end_ctag-requires : goal.put_number_sent-end_ctag-requires
put_number_sent-end_ctag-requires c =
    omega (arith, most _ _ _ _ c.put_number_sent-end_port.ensures.value, most _ _ _ _ c.put_address_sent-end_ipv6.ensures.value, most _ _ _ _ c.put_address_sent-end_ipv4.ensures.value, most _ _ _ _ c.put_number_sent-end_teid.ensures.value)

pub put_number_sent-requires : goal.put_number_sent-requires
put_number_sent-requires c =
    omega (arith, most _ _ _ _ c.put_number_sent-end_ctag.ensures.value, most _ _ _ _ c.put_number_sent-end_port.ensures.value, most _ _ _ _ c.put_address_sent-end_ipv6.ensures.value, most _ _ _ _ c.put_address_sent-end_ipv4.ensures.value, most _ _ _ _ c.put_number_sent-end_teid.ensures.value)

pub returns : goal.returns
returns c =
    let m = c.args.image.now in
    let g = c.args.given in
    let p : Parts m c.args.flags g _ _ _ _ _ _ _ _ _ _ =
    record {
      long = c.requires.whole_image;
      small = c.ranges.flags.fits;
      flags = c.requires.flags_of_image;
      given = c.requires.given_of_image;
      sent_teid = search rules;
      sent_ipv4 = search rules;
      sent_ipv6 = search rules;
      sent_port = search rules;
      sent_ctag = search rules;
      sent_stag = search rules;
      teid_is = teid_is m teid_at g _ _ _ c.u64_at-teid.ensures c.bit.ensures c.if_set-teid_or_zero.ensures.value;
      port_is = port_is m port_at g _ _ _ c.u64_at-port.ensures c.bit-2.ensures c.if_set-port_or_zero.ensures.value;
      ctag_is = tag_is m ctag_at _ c.u64_at-ctag.ensures;
      stag_is = tag_is m stag_at _ c.u64_at-stag.ensures;
    } in
    let e6 = c.put_number_sent-end_teid.ensures in
    let e1 = c.put_address_sent-end_ipv4.ensures in
    let e2 = c.put_address_sent-end_ipv6.ensures in
    let e7 = c.put_number_sent-end_port.ensures in
    let e8 = c.put_number_sent-end_ctag.ensures in
    let e9 = c.put_number_sent.ensures in
    record {
      value = last p _ _ _ _ _ _ e6.value e1.value e2.value e7.value e8.value e9.value;
      out_after = stored p _ _ _ _ _ _ e6.value e1.value e2.value e7.value e8.value e9.value _ _ _ _ _ _ _ _ _ c.put_byte.ensures c.put_byte-2.ensures e6.out_after e1.out_after e2.out_after e7.out_after e8.out_after e9.out_after c.requires.room;
    }

pub shape_of-out : goal.shape_of-out
shape_of-out c = ap length (returns c).out_after ∙ length_put _ _ _
