-- `node_id::write_name` meets its contract: by the two limits, and two puts are one.
use native.Mathlib.Omega.{arith}
use Rattle.node_id.proofs.Writing.{too_wide, short, done}
use Rattle.node_id.proofs.write_name.Goals as goal

pub returns-then-name-gt65534 : goal.returns-then-name-gt65534
returns-then-name-gt65534 c = let all_of_it = too_wide 2 c.args.name.now _ (omega arith) in record { value = all_of_it.0; out_after = all_of_it.1 }

pub returns-then-out-len : goal.returns-then-out-len
returns-then-out-len c = let all_of_it = short 2 c.args.name.now _ (omega arith) (omega arith) in record { value = all_of_it.0; out_after = all_of_it.1 }

pub returns : goal.returns
returns c = let all_of_it = done _ _ _ (omega arith) _ _ (omega arith) c.put_byte.ensures c.put_bytes.ensures in record { value = all_of_it.0; out_after = all_of_it.1 }
