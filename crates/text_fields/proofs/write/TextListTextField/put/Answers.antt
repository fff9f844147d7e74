-- `put` of a list meets its contract: by whether there are bytes, then by whether there is room.
use native.Mathlib.Omega.{arith}
use Rattle.text_fields.proofs.Stores.{list_none, list_not}
use Rattle.text_fields.proofs.write.TextListTextField.put.Goals as goal

pub returns-then-run-eq0-clause-out_after : goal.returns-then-run-eq0-clause-out_after
returns-then-run-eq0-clause-out_after c = (list_none _ _ c.args.texts.now c.args.self _ c.part-run.ensures c.if-run-eq0.true).1

pub returns-then-out-run-clause-out_after : goal.returns-then-out-run-clause-out_after
returns-then-out-run-clause-out_after c = (list_not _ _ c.args.texts.now c.args.self _ c.part-run.ensures (omega arith)).1

pub returns-then-out-run-2-clause-out_after : goal.returns-then-out-run-2-clause-out_after
returns-then-out-run-2-clause-out_after c = (list_not _ _ c.args.texts.now c.args.self _ c.part-run.ensures (omega arith)).1
