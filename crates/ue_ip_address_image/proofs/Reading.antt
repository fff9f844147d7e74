-- The number and the image of a read, from what it answered. No contract cites this file.
use Prim.Native.Nat.{ℕ, ◌≤◌}
use mathlib.Core.Path.{◌≡◌, refl}
use mathlib.Core.List.{List, ◌++◌}
use lib.ListN.{length}
use Rattle.answer.specs.declared.Answer.{Answer}
use Rattle.answer.specs.declared.Answer.TheVariants.{Done}
use Rattle.answer.specs.declared.Read.{Read}
use Rattle.answer.specs.Paper.{number_of}
use Rattle.octets.specs.Octets.{if_set, flag_byte, put}
use Rattle.ue_ip_address.specs.declared.UeIpAddress.{UeIpAddress}
use Rattle.ue_ip_address.specs.UeIpAddress.{read, refused}
use Rattle.image.specs.Image.{little_endian_bytes, address_bytes, head, refusal_image, read_number, read_image}
use Rattle.image.proofs.Laws.{answers, read_long}
use Rattle.ue_ip_address_image.specs.UeIpAddressImage.{size, record_image, image_of}

-- what a read of s promises: the answer k, and the image o' that was o
abbrev pub Answered : (s o o' : List ℕ) (k : ℕ) → Type 0
Answered s o o' k = record { value : k ≡ number_of (read s).answer; image_after : o' ≡ put o 0 (image_of (read s)) }

module _ (s o : List ℕ) {o' : List ℕ} where
  pub refusal : {k : ℕ} (a : Answer) → record { value : k ≡ number_of a; out_after : o' ≡ put o 0 (refusal_image size a) } → refused a ≡ read s → Answered s o o' k
  unfolding refusal_image refused record_image little_endian_bytes flag_byte if_set address_bytes
  refusal a p e = let (n, i) = answers (λ (r : Read UeIpAddress). r.answer) image_of o e (p.value, p.out_after) in record { value = n; image_after = i }

  pub accepted : {n : ℕ} {r : UeIpAddress} → o' ≡ put o 0 (head Done n ++ record_image r) → record { answer = Done; used = n; «record» = r } ≡ read s → Answered s o o' 0
  accepted q e = let (n, i) = answers (λ (r : Read UeIpAddress). r.answer) image_of o e (refl, q) in record { value = n; image_after = i }

  -- where the lent memory has the image's size
  pub long_enough : {k : ℕ} → size ≤ length o → Answered s o o' k → record { value : k ≡ read_number size o (read s).answer; image_after : o' ≡ read_image size o (image_of (read s)) }
  long_enough h p = let (n, i) = read_long _ _ _ h (p.value, p.image_after) in record { value = n; image_after = i }
