-- `pfd_contents_image::put_image` meets its contract: its puts, from the back to the front, are one put of the image.
use Prim.Native.Nat.{ℕ, ◌≤◌}
use native.Mathlib.Omega.{arith}
use mathlib.Core.Path.{◌≡◌, refl, sym}
use mathlib.Core.Bool.{Bool, false}
use Rattle.std.specs.Prelude.{is_some}
use mathlib.Core.List.{List, [], ◌∷◌, ◌++◌}
use lib.ListN.{length, length-append}
use Rattle.answer.specs.declared.Answer.TheVariants.{Done}
use Rattle.octets.specs.Octets.{if_set, flag_byte, put}
use Rattle.octets.proofs.Laws.{put_not}
use Rattle.pfd_contents.specs.declared.PfdContents.{PfdContents}
use Rattle.image.specs.Image.{head}
use Rattle.image.proofs.Laws.{length_head, last_part, then_part, then_byte, then_head}
use Rattle.pfd_contents_image.specs.PfdContentsImage.{flags_at, given_at, flow_at, flows_at, size, texts_image, lists_image, record_image}
use Rattle.pfd_contents_image.proofs.Laws.{length_texts, length_lists}
use Rattle.pfd_contents_image.proofs.put_image.Goals as goal

stored : (d d1 d2 d3 d4 d5 : List ℕ) (n : ℕ) (r : PfdContents) (g : ℕ) {b₁ b₂ b₃ b₄ b₅ : Bool} → size ≤ length d
    → b₁ ≡ is_some r.flow_description
    → b₂ ≡ is_some r.url
    → b₃ ≡ is_some r.domain_name
    → b₄ ≡ is_some r.custom_pfd_content
    → b₅ ≡ is_some r.domain_name_protocol
    → g ≡ flag_byte (b₁ ∷ b₂ ∷ b₃ ∷ b₄ ∷ b₅ ∷ false ∷ false ∷ false ∷ [])
    → d1 ≡ put d flows_at (lists_image r)
    → d2 ≡ put d1 flow_at (texts_image r)
    → d3 ≡ put d2 given_at (g ∷ [])
    → d4 ≡ put d3 flags_at (r.flags ∷ [])
    → d5 ≡ put d4 0 (head Done n)
    → d5 ≡ put d 0 (head Done n ++ record_image r)
unfolding record_image flag_byte if_set
stored d d1 d2 d3 d4 d5 n r g room p₁ p₂ p₃ p₄ p₅ eg q1 q2 q3 q4 q5 =
    let s1 = last_part size 72 flows_at (lists_image r) room (length_lists r) refl q1 in
    let s2 = then_part s1 80 flow_at (texts_image r) (length_texts r) q2 refl in
    let s3 = then_byte s2 given_at g q3 refl in
    let s4 = then_byte s3 flags_at r.flags q4 refl in
    rw (eg, p₁, p₂, p₃, p₄, p₅) at (then_head s4 Done n q5 refl)

-- how long the image is
long : (n : ℕ) (r : PfdContents) → length (head Done n ++ record_image r) ≡ size
unfolding record_image
long n r = simp (length-append, length_head, length_texts, length_lists) (omega arith)

pub returns-then-out-lt-SIZE : goal.returns-then-out-lt-SIZE
returns-then-out-lt-SIZE c =
    let l = long c.args.used c.args.«record» in
    sym (put_not _ _ _ (omega arith))

pub returns : goal.returns
returns c =
    stored _ _ _ _ _ _ _ _ _ c.if-out-lt-SIZE.false c.is_some.ensures c.is_some-2.ensures c.is_some-3.ensures c.is_some-4.ensures c.is_some-5.ensures c.flag_byte-given.ensures c.put_lists.ensures c.put_texts.ensures c.put_byte.ensures c.put_byte-2.ensures c.put_head.ensures
