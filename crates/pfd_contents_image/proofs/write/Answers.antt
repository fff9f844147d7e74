-- `pfd_contents_image::write` meets its contract: by whether the image and the report have their bytes.
use Prim.Native.Nat.{ℕ, ◌≤◌}
use mathlib.Core.Path.{◌≡◌, refl, sym, ◌∙◌}
use mathlib.Core.Bool.{Bool, true, false, not, ◌&&◌, false≢true}
use borrow.Author.Tests.{leb-true, not-false}
use lib.Dec.{leb}
use mathlib.Core.List.{List}
use lib.ListN.{length}
use Rattle.answer.specs.declared.Written.{Written}
use Rattle.kind.specs.Write.{answered, stored}
use Rattle.pfd_contents.specs.declared.PfdContents.{PfdContents}
use Rattle.pfd_contents.specs.PfdContents.{meaning, wire, write_refusal}
use Rattle.image.specs.Image.{head_size}
use Rattle.image.proofs.Laws.{write_short, write_long}
use Rattle.pfd_contents_image.specs.PfdContentsImage.{size, record_at, writes, stores}
use Rattle.pfd_contents_image.proofs.write.Goals as goal

wrote : (m texts d : List ℕ) {r : PfdContents} {v : Written} {o : List ℕ} → r ≡ record_at m
    → (v ≡ answered (write_refusal texts r) (wire (meaning texts r)) (length d)) × (o ≡ stored (write_refusal texts r) d (wire (meaning texts r)))
    → (v ≡ writes m texts d) × (o ≡ stores m texts d)
unfolding writes stores
wrote m texts d e q = rw e at q

long_image : (t : Bool) (a b : ℕ) → t ≡ (leb size a && leb head_size b) → not t ≡ false → size ≤ a
long_image t a b k h = go (leb size a) refl (sym k ∙ not-false t h)
  where
    go : (u : Bool) → leb size a ≡ u → (u && leb head_size b) ≡ true → size ≤ a
    go true e q = leb-true size a e
    go false e q = absurd (false≢true q)

pub returns-then-not-long_enough : goal.returns-then-not-long_enough
returns-then-not-long_enough c = let all = write_short _ _ _ _ c.long_enough.ensures c.if-not-long_enough.true-raw in record { value = all.0; out_after = all.1.0; report_after = all.1.1 }

pub record_at-record-requires : goal.record_at-record-requires
record_at-record-requires c =
    let a = c.args in
    long_image c.long_enough.result (length a.image.now) (length a.report.now) c.long_enough.ensures c.if-not-long_enough.false-raw

pub returns : goal.returns
returns c = let all = write_long _ _ c.long_enough.ensures c.if-not-long_enough.false-raw (wrote _ _ _ c.record_at-record.ensures (c.marshal.ensures.value, c.marshal.ensures.out_after)) (c.put_report.ensures.value, c.put_report.ensures.out_after) in record { value = all.0; out_after = all.1.0; report_after = all.1.1 }
