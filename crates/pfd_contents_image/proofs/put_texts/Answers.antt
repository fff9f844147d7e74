-- `pfd_contents_image::put_texts` meets its contract: its puts, from the back to the front, are one put.
use Prim.Native.Nat.{ℕ, ◌≤◌}
use native.Mathlib.Omega.{arith}
use mathlib.Core.Path.{◌≡◌, refl, sym}
use mathlib.Core.List.{List}
use lib.ListN.{length}
use Rattle.octets.specs.Octets.{put}
use Rattle.octets.proofs.Laws.{put_not}
use Rattle.pfd_contents.specs.declared.PfdContents.{PfdContents}
use Rattle.image.proofs.Laws.{last_part, then_part}
use Rattle.pfd_contents_image.specs.PfdContentsImage.{flow_at, url_at, domain_at, custom_at, protocol_at, flows_at, text_image, texts_image}
use Rattle.pfd_contents_image.proofs.Laws.{length_text, length_texts}
use Rattle.pfd_contents_image.proofs.put_texts.Goals as goal

stored : (d d1 d2 d3 d4 d5 : List ℕ) (r : PfdContents) → flows_at ≤ length d
    → d1 ≡ put d protocol_at (text_image r.domain_name_protocol)
    → d2 ≡ put d1 custom_at (text_image r.custom_pfd_content)
    → d3 ≡ put d2 domain_at (text_image r.domain_name)
    → d4 ≡ put d3 url_at (text_image r.url)
    → d5 ≡ put d4 flow_at (text_image r.flow_description)
    → d5 ≡ put d flow_at (texts_image r)
unfolding texts_image
stored d d1 d2 d3 d4 d5 r room q1 q2 q3 q4 q5 =
    let s1 = last_part flows_at 16 protocol_at _ room (length_text r.domain_name_protocol) refl q1 in
    let s2 = then_part s1 16 custom_at _ (length_text r.custom_pfd_content) q2 refl in
    let s3 = then_part s2 16 domain_at _ (length_text r.domain_name) q3 refl in
    let s4 = then_part s3 16 url_at _ (length_text r.url) q4 refl in
    (then_part s4 16 flow_at _ (length_text r.flow_description) q5 refl).is

pub returns-then-out-lt-FLOWS : goal.returns-then-out-lt-FLOWS
returns-then-out-lt-FLOWS c =
    let l = length_texts c.args.«record» in
    sym (put_not _ _ _ (omega arith))

pub returns : goal.returns
returns c =
    stored _ _ _ _ _ _ _ c.if-out-lt-FLOWS.false c.put_text.ensures c.put_text-2.ensures c.put_text-3.ensures c.put_text-4.ensures c.put_text-5.ensures
