-- `pfd_contents_image::put_lists` meets its contract: its puts, from the back to the front, are one put.
use Prim.Native.Nat.{ℕ, ◌≤◌}
use native.Mathlib.Omega.{arith}
use mathlib.Core.Path.{◌≡◌, refl, sym}
use mathlib.Core.List.{List}
use lib.ListN.{length}
use Rattle.octets.specs.Octets.{put}
use Rattle.octets.proofs.Laws.{put_not}
use Rattle.pfd_contents.specs.declared.PfdContents.{PfdContents}
use Rattle.image.proofs.Laws.{last_part, then_part}
use Rattle.pfd_contents_image.specs.PfdContentsImage.{flows_at, urls_at, names_at, size, list_image, lists_image}
use Rattle.pfd_contents_image.proofs.Laws.{length_list, length_lists}
use Rattle.pfd_contents_image.proofs.put_lists.Goals as goal

stored : (d d1 d2 d3 : List ℕ) (r : PfdContents) → size ≤ length d
    → d1 ≡ put d names_at (list_image r.additional_domain_name_and_protocol)
    → d2 ≡ put d1 urls_at (list_image r.additional_url)
    → d3 ≡ put d2 flows_at (list_image r.additional_flow_description)
    → d3 ≡ put d flows_at (lists_image r)
unfolding lists_image
stored d d1 d2 d3 r room q1 q2 q3 =
    let s1 = last_part size 24 names_at _ room (length_list r.additional_domain_name_and_protocol) refl q1 in
    let s2 = then_part s1 24 urls_at _ (length_list r.additional_url) q2 refl in
    (then_part s2 24 flows_at _ (length_list r.additional_flow_description) q3 refl).is

pub returns-then-out-lt-SIZE : goal.returns-then-out-lt-SIZE
returns-then-out-lt-SIZE c =
    let l = length_lists c.args.«record» in
    sym (put_not _ _ _ (omega arith))

pub returns : goal.returns
returns c =
    stored _ _ _ _ _ c.if-out-lt-SIZE.false c.put_list.ensures c.put_list-2.ensures c.put_list-3.ensures
