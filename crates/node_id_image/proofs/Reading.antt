-- The number and the image of a read, from what it answered. No contract cites this file.
use Prim.Native.Nat.{ℕ}
use mathlib.Core.Path.{◌≡◌}
use mathlib.Core.List.{List, ◌++◌}
use Rattle.answer.specs.declared.Answer.{Answer}
use Rattle.answer.specs.declared.Answer.TheVariants.{Done}
use Rattle.answer.specs.Paper.{number_of}
use Rattle.octets.specs.Octets.{put}
use Rattle.node_id.specs.declared.NodeId.{NodeId}
use Rattle.answer.specs.declared.Read.{Read}
use Rattle.node_id.specs.NodeId.{refused}
use Rattle.image.specs.Image.{head}
use Rattle.image.proofs.Laws.{answers}
use Rattle.node_id_image.specs.NodeIdImage.{record_image, image_of, fields_of, bytes_of}

-- k is the number of what was read, and o' the memory o with its image
abbrev pub Answers : List ℕ → ℕ → List ℕ → Read NodeId → Type 0
Answers o k o' r = (k ≡ number_of r.answer) × (o' ≡ put o 0 (image_of r))

-- what a reader says of a payload
module _ (says : List ℕ → Read NodeId) (s o : List ℕ) {o' : List ℕ} where
  pub same : {k : ℕ} (q : Read NodeId) → Answers o k o' q → q ≡ says s → Answers o k o' (says s)
  same q p e = answers (λ (x : Read NodeId). x.answer) image_of o e p

  pub refusal : {k : ℕ} (a : Answer) → (k ≡ number_of a) × (o' ≡ put o 0 (image_of (refused a))) → refused a ≡ says s → Answers o k o' (says s)
  unfolding refused
  refusal a p e = same (refused a) p e

  pub accepted : {k n : ℕ} {x : NodeId} → (k ≡ 0) × (o' ≡ put o 0 (head Done n ++ bytes_of (fields_of x))) → record { answer = Done; used = n; «record» = x } ≡ says s → Answers o k o' (says s)
  unfolding record_image
  accepted p e = same _ p e
