-- `octets::number` meets its contract: eight and four bytes by their halves, others one after the other.
use native.Mathlib.Omega.{arith}
use Rattle.octets.proofs.Laws.{number_four, number_eight, number_equals}
use Rattle.octets.proofs.number.Goals as goal

pub returns-then-bs-eq8 : goal.returns-then-bs-eq8
returns-then-bs-eq8 c =
    let t = c.before.before in
    let k = t.before in
    let bs = k.args.bs.now in let all_of_it = number_equals bs _ 8 t.if-bs-eq8.true (omega arith) (λ i. (k.shared_slice_known-1.given i).fits) (number_eight bs _ _ t.if-bs-eq8.true c.load_big_endian.ensures c.load_big_endian-then-bs-eq8.ensures) in record { value = all_of_it.0; upper_bound = all_of_it.1 }

pub returns-then-bs-eq4 : goal.returns-then-bs-eq4
returns-then-bs-eq4 c =
    let t = c.before in
    let k = t.before.before in
    let bs = k.args.bs.now in let all_of_it = number_equals bs _ 4 t.if-bs-eq4.true (omega arith) (λ i. (k.shared_slice_known-1.given i).fits) (number_four bs _ t.if-bs-eq4.true c.load_big_endian-then-bs-eq4.ensures) in record { value = all_of_it.0; upper_bound = all_of_it.1 }

pub returns : goal.returns
returns c = record { value = c.fold_big_endian.ensures.value; upper_bound = c.fold_big_endian.ensures.upper_bound }
