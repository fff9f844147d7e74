use native.Mathlib.Omega.{arith}
use lib.ListN.{length}
use Rattle.text.proofs.Laws.{passed_on, good_end, ended, ended_all, ended_on}
use Rattle.text.proofs.scan.Goals as goal

pub returns-then-ascii_rest : goal.returns-then-ascii_rest
returns-then-ascii_rest c =
    let w = c.before.before in
    let b = w.before in
    let text = b.args.text.now in
    let all = passed_on (passed_on b.ascii_end-blocks.ensures w.ascii_end-words.ensures) (c.ascii_rest.ensures c.if-ascii_rest.true) in let all_of_it = ended_all text (length text) (ended text 0 (length text) all (good_end text (length text) (omega arith))) in record { value = all_of_it.0; upper_bound = all_of_it.1 }

pub returns : goal.returns
returns c =
    let w = c.before.before.before in
    let text = w.args.text.now in
    let passed = passed_on w.ascii_end-blocks.ensures w.ascii_end-words.ensures in let all_of_it = ended_all text _ (ended_on text 0 _ _ passed c.scan_from.ensures) in record { value = all_of_it.0; upper_bound = all_of_it.1 }
