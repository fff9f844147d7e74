-- `outer_header_creation_image::read` meets its contract: at each return, the tests that led there and what the calls handed over.
use Prim.Native.Nat.{ℕ, ◌<◌}
use native.Mathlib.Omega.{arith}
use mathlib.Core.Path.{◌≡◌, refl}
use mathlib.Core.List.{List}
use lib.ListN.{length}
use Rattle.answer.specs.declared.Answer.TheVariants.{Short}
use Rattle.outer_header_creation.specs.OuterHeaderCreation.{read, refused}
use Rattle.outer_header_creation.proofs.Returns.{too_long, no_head}
use Rattle.image.proofs.Laws.{read_short, read_long}
use Rattle.outer_header_creation_image.proofs.Reading.{refusal}
use borrow.Author.Rules.{rules}
use Rattle.outer_header_creation_image.proofs.read.Goals as goal

-- a payload of less than two bytes isn't too long
none : (s : List ℕ) → length s < 2 → refused (Short 0 2 (length s)) ≡ read s
none s h = no_head s _ (omega arith) h refl

pub returns-then-image-lt-SIZE : goal.returns-then-image-lt-SIZE
returns-then-image-lt-SIZE c = let all = read_short _ _ _ c.if-image-lt-SIZE.true in record { value = all.0; image_after = all.1 }

pub returns-then-n-lt-MIN_LEN : goal.returns-then-n-lt-MIN_LEN
returns-then-n-lt-MIN_LEN c = let all = read_long _ _ _ (search rules) (refusal _ _ _ (c.put_short.ensures.value, c.put_short.ensures.out_after) (search none)) in record { value = all.0; image_after = all.1 }

pub returns-then-n-gt65535 : goal.returns-then-n-gt65535
returns-then-n-gt65535 c = let all = read_long _ _ _ (search rules) (refusal _ _ _ (c.put_refused.ensures.value, c.put_refused.ensures.out_after) (search too_long)) in record { value = all.0; image_after = all.1 }

pub returns : goal.returns
returns c = let all = read_long _ _ _ (search rules) (c.read_fields.ensures.value, c.read_fields.ensures.image_after) in record { value = all.0; image_after = all.1 }
