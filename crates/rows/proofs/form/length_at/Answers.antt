-- `rows::form::length_at` meets its contract: two bytes make a number.
use native.Mathlib.Omega.{arith}
use Rattle.rows.proofs.Laws.{part_number}
use Rattle.rows.proofs.form.length_at.Goals as goal

pub returns : goal.returns
returns c = part_number c.args.slice.now _ c.args.at 2 _ (omega arith) c.part.ensures c.number.ensures.value
