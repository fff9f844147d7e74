-- The number and the image of a read, from what it answered. No contract cites this file.
use Prim.Native.Nat.{ℕ}
use mathlib.Core.Path.{◌≡◌, refl}
use mathlib.Core.List.{List, ◌++◌}
use Rattle.answer.specs.declared.Answer.{Answer}
use Rattle.answer.specs.declared.Read.{Read}
use Rattle.answer.specs.declared.Answer.TheVariants.{Done}
use Rattle.answer.specs.Paper.{number_of}
use Rattle.octets.specs.Octets.{if_set, flag_byte, put}
use Rattle.f_teid.specs.declared.Fteid.{Fteid}
use Rattle.f_teid.specs.Fteid.{read, refused}
use Rattle.image.specs.Image.{little_endian_bytes, address_bytes, head, refusal_image}
use Rattle.image.proofs.Laws.{answers}
use Rattle.f_teid_image.specs.FteidImage.{size, record_image, image_of}

module _ (s o : List ℕ) {o' : List ℕ} where
  pub refusal : {k : ℕ} (a : Answer) → (k ≡ number_of a) × (o' ≡ put o 0 (refusal_image size a)) → refused a ≡ read s → (k ≡ number_of (read s).answer) × (o' ≡ put o 0 (image_of (read s)))
  unfolding refusal_image refused record_image little_endian_bytes flag_byte if_set address_bytes
  refusal a p e = answers (λ (r : Read Fteid). r.answer) image_of o e p

  pub accepted : {n : ℕ} {r : Fteid} → o' ≡ put o 0 (head Done n ++ record_image r) → record { answer = Done; used = n; «record» = r } ≡ read s → (0 ≡ number_of (read s).answer) × (o' ≡ put o 0 (image_of (read s)))
  accepted q e = answers (λ (r : Read Fteid). r.answer) image_of o e (refl, q)
