-- The number and the image of a read, from what it answered, and the record of the parts of a payload. No contract cites this file.
use Prim.Native.Nat.{ℕ}
use mathlib.Core.Path.{◌≡◌, refl, ap, ◌∙◌}
use mathlib.Core.List.{List, ◌++◌}
use Rattle.std.specs.Prelude.{Option, option_map}
use lib.ListN.{get_or}
use Rattle.answer.specs.declared.Answer.{Answer}
use Rattle.answer.specs.declared.Answer.TheVariants.{Done}
use Rattle.answer.specs.declared.Read.{Read}
use Rattle.answer.specs.Paper.{number_of as answer_number}
use Rattle.types.specs.declared.Teid.{Teid}
use Rattle.octets.specs.Octets.{if_set, flag_byte, number_of, put}
use Rattle.outer_header_creation.specs.declared.OuterHeaderCreation.{OuterHeaderCreation}
use Rattle.outer_header_creation.specs.OuterHeaderCreation.{Flags, flags_of, teid_of, read, refused}
use Rattle.image.specs.Image.{little_endian_bytes, address_bytes, head, refusal_image}
use Rattle.image.proofs.Laws.{answers}
use Rattle.outer_header_creation_image.specs.OuterHeaderCreationImage.{size, record_image, image_of}

module _ (s o : List ℕ) {o' : List ℕ} where
  pub refusal : {k : ℕ} (a : Answer) → (k ≡ answer_number a) × (o' ≡ put o 0 (refusal_image size a)) → refused a ≡ read s → (k ≡ answer_number (read s).answer) × (o' ≡ put o 0 (image_of (read s)))
  unfolding refusal_image refused record_image little_endian_bytes flag_byte if_set address_bytes
  refusal a p e = answers (λ (r : Read OuterHeaderCreation). r.answer) image_of o e p

  pub accepted : {n : ℕ} {r : OuterHeaderCreation} → o' ≡ put o 0 (head Done n ++ record_image r) → record { answer = Done; used = n; «record» = r } ≡ read s → (0 ≡ answer_number (read s).answer) × (o' ≡ put o 0 (image_of (read s)))
  accepted q e = answers (λ (r : Read OuterHeaderCreation). r.answer) image_of o e (refl, q)

-- the flags of the first byte, by the byte that was passed on
pub flags_of_law : (s : List ℕ) (b : ℕ) (d : Flags) → b ≡ get_or s 0 0 → d ≡ flags_of b → d ≡ flags_of (get_or s 0 0)
flags_of_law s b d p q = q ∙ ap flags_of p

-- the TEID of the bytes that a payload has of it
pub teid_is : (bs : List ℕ) (x : Option ℕ) (t : Option Teid) → x ≡ number_of 4 bs → t ≡ option_map (λ n. record { 0 = n }) x → t ≡ teid_of bs
teid_is bs x t p q = rw p at q
