-- `case_line::row_for` meets its contract: by the letter, what was read and written is the row of the kind.
use Prim.Native.Nat.{ℕ}
use mathlib.Core.Path.{◌≡◌, refl, ap, ◌∙◌}
use mathlib.Core.Bool.{false}
use lib.Dec.{eqb}
use native.Mathlib.Omega.{arith}
use borrow.Author.Tests.{ne_eqb}
use borrow.Author.Rules.{rules}
use Rattle.octets.proofs.Laws.{bytes_each}
use Rattle.kind.proofs.Laws.{length_clear}
use Rattle.answer.specs.declared.Read.{Read}
use Rattle.ue_ip_address.specs.UeIpAddress as ue
use Rattle.ue_ip_address.proofs.OfKind as ueOf
use Rattle.f_teid.specs.Fteid as fteid
use Rattle.f_teid.proofs.OfKind as fteidOf
use Rattle.fseid.specs.Fseid as fseid
use Rattle.fseid.proofs.OfKind as fseidOf
use Rattle.node_id.specs.declared.NodeId.{NodeId}
use Rattle.node_id.specs.NodeId as node
use Rattle.node_id.proofs.OfKind as nodeOf
use Rattle.outer_header_creation.specs.OuterHeaderCreation as ohc
use Rattle.outer_header_creation.proofs.OfKind as ohcOf
use Rattle.pfd_contents.specs.declared.PfdContents.{PfdContents}
use Rattle.pfd_contents.specs.PfdContents as pfd
use Rattle.pfd_contents.proofs.OfKind as pfdOf
use Rattle.case_line.specs.Line.{row_for}
use Rattle.case_line.proofs.Laws.{row_fixed, row_with_texts}
use Rattle.case_line.proofs.row_for.Goals as goal

pub returns-in-85 : goal.returns-in-85
unfolding row_for
returns-in-85 c = rw c.in-85.is (row_fixed ueOf.kind (length_clear _) ue.meaning _ _ _ _ _ _ c.unmarshal.ensures refl refl refl (bytes_each c.args.payload.now (λ i. (c.type_inv.payload i).fits)) c.requires c.row_of.ensures (λ p q w m. m))

pub returns-in-70 : goal.returns-in-70
unfolding row_for
returns-in-70 c = rw c.in-70.is (row_fixed fteidOf.kind (length_clear _) fteid.meaning _ _ _ _ _ _ c.unmarshal-in-70.ensures refl refl refl (bytes_each c.args.payload.now (λ i. (c.type_inv.payload i).fits)) c.requires c.row_of-in-70.ensures (λ p q w m. m))

pub returns-in-83 : goal.returns-in-83
unfolding row_for
returns-in-83 c = rw c.in-83.is (row_fixed fseidOf.kind (length_clear _) fseid.meaning _ _ _ _ _ _ c.unmarshal-in-83.ensures refl refl refl (bytes_each c.args.payload.now (λ i. (c.type_inv.payload i).fits)) c.requires c.row_of-in-83.ensures (λ p q w m. m))

pub returns-in-78 : goal.returns-in-78
unfolding row_for
returns-in-78 c =
    let payload = c.args.payload.now in
    let read = c.unmarshal-in-78.ensures in
    rw c.in-78.is (row_with_texts nodeOf.kind (λ s. refl) (node.meaning payload) _ _ _ _ _ _ read refl refl refl (bytes_each c.args.payload.now (λ i. (c.type_inv.payload i).fits)) c.requires c.row_of-in-78.ensures (node.write_refusal payload)
    (λ r. ap (λ (x : Read NodeId). node.write_refusal payload x.«record») read ∙ nodeOf.writable (rw read at r)) (λ p q w m. search rules))

pub returns-in-79 : goal.returns-in-79
unfolding row_for
returns-in-79 c = rw c.in-79.is (row_fixed ohcOf.kind (length_clear _) ohc.meaning _ _ _ _ _ _ c.unmarshal-in-79.ensures refl refl refl (bytes_each c.args.payload.now (λ i. (c.type_inv.payload i).fits)) c.requires c.row_of-in-79.ensures (λ p q w m. m))

pub returns-in-80 : goal.returns-in-80
unfolding row_for
returns-in-80 c =
    let payload = c.args.payload.now in
    let read = c.unmarshal-in-80.ensures in
    rw c.in-80.is (row_with_texts pfdOf.kind (length_clear _) (pfd.meaning payload) _ _ _ _ _ _ read refl refl refl (bytes_each c.args.payload.now (λ i. (c.type_inv.payload i).fits)) c.requires c.row_of-in-80.ensures (pfd.write_refusal payload)
    (λ r. ap (λ (x : Read PfdContents). pfd.write_refusal payload x.«record») read ∙ pfdOf.writable (rw read at r)) (λ p q w m. search rules))

pub returns-in_default : goal.returns-in_default
unfolding row_for
returns-in_default c =
    let b = c.args.letter in
    let other : (k : ℕ) → (b ≡ k → ⊥) → eqb b k ≡ false = λ k h. ne_eqb b k h in
    record {
      bytes_after = rw (other 85 (omega arith), other 70 (omega arith), other 83 (omega arith), other 78 (omega arith), other 79 (omega arith), other 80 (omega arith));
      len_in_bounds = tt;
    }
