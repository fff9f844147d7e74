-- The number and the image of a read, from what it answered. No contract cites this file.
use Prim.Native.Nat.{ℕ}
use mathlib.Core.Path.{◌≡◌, refl}
use mathlib.Core.List.{List, ◌++◌}
use Rattle.answer.specs.declared.Answer.{Answer}
use Rattle.answer.specs.declared.Answer.TheVariants.{Done}
use Rattle.answer.specs.Paper.{number_of}
use Rattle.octets.specs.Octets.{if_set, flag_byte, put}
use Rattle.pfd_contents.specs.declared.PfdContents.{PfdContents}
use Rattle.answer.specs.declared.Read.{Read}
use Rattle.pfd_contents.specs.PfdContents.{refused}
use Rattle.image.specs.Image.{little_endian_bytes, head, refusal_image}
use Rattle.image.proofs.Laws.{answers}
use Rattle.pfd_contents_image.specs.PfdContentsImage.{size, text_image, list_image, texts_image, lists_image, record_image, image_of}

-- k is the number of what was read, and o' the memory o with its image
abbrev pub Answers : List ℕ → ℕ → List ℕ → Read PfdContents → Type 0
Answers o k o' r = (k ≡ number_of r.answer) × (o' ≡ put o 0 (image_of r))

-- what a reader says, of a payload or of its flags
module _ {A : Type 0} (says : A → Read PfdContents) (x : A) (o : List ℕ) {o' : List ℕ} where
  pub same : {k : ℕ} (q : Read PfdContents) → Answers o k o' q → q ≡ says x → Answers o k o' (says x)
  same q p e = answers (λ (r : Read PfdContents). r.answer) image_of o e p

  pub refusal : {k : ℕ} (a : Answer) → (k ≡ number_of a) × (o' ≡ put o 0 (refusal_image size a)) → refused a ≡ says x → Answers o k o' (says x)
  unfolding refusal_image refused record_image texts_image lists_image text_image list_image flag_byte if_set little_endian_bytes
  refusal a p e = same (refused a) p e

  pub accepted : {n : ℕ} {r : PfdContents} → o' ≡ put o 0 (head Done n ++ record_image r) → record { answer = Done; used = n; «record» = r } ≡ says x → Answers o 0 o' (says x)
  accepted q e = same _ (refl, q) e
