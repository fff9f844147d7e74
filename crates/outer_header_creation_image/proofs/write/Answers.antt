-- `outer_header_creation_image::write` meets its contract: by whether the image and the report have their bytes.
use Prim.Native.Nat.{ℕ, ◌≤◌}
use mathlib.Core.Path.{◌≡◌, refl, sym, ◌∙◌}
use mathlib.Core.Bool.{Bool, true, false, not, ◌&&◌}
use lib.Dec.{leb}
use borrow.Author.Tests.{leb-true, not-false}
use Rattle.image.proofs.Laws.{write_short, write_long}
use Rattle.outer_header_creation_image.specs.OuterHeaderCreationImage.{size}
use Rattle.outer_header_creation_image.proofs.write.Goals as goal

-- the image has its bytes
has_image : (n : ℕ) (b t : Bool) → t ≡ leb size n && b → not t ≡ false → size ≤ n
has_image n b t e h = leb-true _ _ (first (leb size n) (sym e ∙ not-false t h))
  where
    first : (a : Bool) → a && b ≡ true → a ≡ true
    first true q = refl
    first false q = q

pub returns-then-not-long_enough : goal.returns-then-not-long_enough
returns-then-not-long_enough c = let all = write_short _ _ _ _ c.long_enough.ensures c.if-not-long_enough.true-raw in record { value = all.0; out_after = all.1.0; report_after = all.1.1 }

pub write_form-requires : goal.write_form-requires
write_form-requires c = let b = c in has_image _ _ _ b.long_enough.ensures b.if-not-long_enough.false-raw

pub returns : goal.returns
returns c = let all = write_long _ _ c.long_enough.ensures c.if-not-long_enough.false-raw (c.write_form.ensures.value, c.write_form.ensures.out_after) (c.put_report.ensures.value, c.put_report.ensures.out_after) in record { value = all.0; out_after = all.1.0; report_after = all.1.1 }
