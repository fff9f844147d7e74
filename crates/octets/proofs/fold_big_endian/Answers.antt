-- `octets::fold_big_endian` meets its contract. The invariant: the bytes passed are in x, and those to come stand behind it.
use mathlib.Core.Path.{◌≡◌, sym, ◌∙◌}
use native.Mathlib.Omega.{arith}
use native.Mathlib.Numerals.{add-one}
use native.Mathlib.Nat.{pow-suc, one-le-pow}
use lib.ListN.{length}
use lib.Arith.{digits_lt}
use lib.Dec.{lit<}
use borrow.Author.Tests.{le-leb, lt-leb}
use Rattle.octets.proofs.Laws.{behind_step, behind_end, room}
use Rattle.octets.proofs.fold_big_endian.Goals as goal

pub returns-then-bs-gt8 : goal.returns-then-bs-gt8
returns-then-bs-gt8 c = record { value = rw (lt-leb _ _ c.if-bs-gt8.true); upper_bound = one-le-pow (length c.args.bs.now) 256 (lit< tt) }

pub overflow_mul-x : goal.overflow_mul-x
overflow_mul-x c = record { fits = omega (arith, room _ _ 0 (omega arith) c.loop-b.invariant.0 (omega arith)) }

pub overflow_add-x : goal.overflow_add-x
overflow_add-x c = record { fits = room _ _ _ (omega arith) c.loop-b.invariant.0 (c.type_inv.bs c.loop-b.b-index).fits }

pub loop-b-preserved : goal.loop-b-preserved
loop-b-preserved c =
    let l = c.loop-b in
    (rw (add-one, pow-suc) (digits_lt l.invariant.0 (c.type_inv.bs l.b-index).fits), behind_step l.x l.b-index c.args.bs.now (omega arith) ∙ l.invariant.1)

pub returns : goal.returns
returns c =
    let l = c.loop-b in
    let e : l.b-index ≡ length c.args.bs.now = omega arith in
    record { value = rw (le-leb _ _ c.if-bs-gt8.false) (sym (behind_end _ l.b-index _ (omega arith)) ∙ l.invariant.1); upper_bound = rw e at l.invariant.0 }
