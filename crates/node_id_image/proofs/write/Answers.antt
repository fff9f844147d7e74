-- `node_id_image::write` meets its contract: by whether the image and the report have their bytes.
use Prim.Native.Nat.{ℕ}
use mathlib.Core.Path.{◌≡◌}
use mathlib.Core.List.{List}
use lib.ListN.{length}
use Rattle.answer.specs.declared.Written.{Written}
use Rattle.kind.specs.Write.{answered, stored}
use Rattle.node_id.specs.declared.NodeId.{NodeId}
use Rattle.node_id.specs.NodeId.{meaning, wire, write_refusal}
use Rattle.image.proofs.Laws.{write_short, write_long}
use Rattle.node_id_image.specs.NodeIdImage.{record_at, writes, stores}
use Rattle.node_id_image.proofs.write.Goals as goal

wrote : (m texts d : List ℕ) {r : NodeId} {v : Written} {o : List ℕ} → r ≡ record_at m
    → (v ≡ answered (write_refusal texts r) (wire (meaning texts r)) (length d)) × (o ≡ stored (write_refusal texts r) d (wire (meaning texts r)))
    → (v ≡ writes m texts d) × (o ≡ stores m texts d)
unfolding writes stores
wrote m texts d e q = rw e at q

pub returns-then-not-long_enough : goal.returns-then-not-long_enough
returns-then-not-long_enough c = let all = write_short _ _ _ _ c.long_enough.ensures c.if-not-long_enough.true-raw in record { value = all.0; out_after = all.1.0; report_after = all.1.1 }

pub returns : goal.returns
returns c = let all = write_long _ _ c.long_enough.ensures c.if-not-long_enough.false-raw (wrote _ _ _ c.record_at-record.ensures (c.marshal.ensures.value, c.marshal.ensures.out_after)) (c.put_report.ensures.value, c.put_report.ensures.out_after) in record { value = all.0; out_after = all.1.0; report_after = all.1.1 }
