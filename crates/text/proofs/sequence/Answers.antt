use mathlib.Core.List.{[]}
use mathlib.Core.Path.{◌≡◌, refl, sym, ◌∙◌}
use native.Mathlib.Omega.{arith}
use lib.ListN.{get_or, drop, length-drop, drop_of_length-le}
use Rattle.std.proofs.lemmas.List.{take_rest}
use Rattle.text.proofs.Table.{lead_of, sequence_ascii, nothing_begun, none_begun, sequence_cut, sequence_whole}
use Rattle.text.proofs.sequence.Goals as goal

pub returns-in_err-lead : goal.returns-in_err-lead
returns-in_err-lead c = rw (c.from_residual.ensures, drop_of_length-le c.args.text.now c.in_err-lead.ensures.lookup.3) (nothing_begun [] refl).0

pub returns-then-lead-lt128 : goal.returns-then-lead-lt128
returns-then-lead-lt128 c = (omega arith, omega (arith, c.in_ok-lead.ensures.lookup.3.0), sequence_ascii c.args.text.now c.args.at c.in_ok-lead.ensures.lookup.3.0 (omega (arith, c.in_ok-lead.ensures.lookup.3.1 0)))

pub returns-in_err-row : goal.returns-in_err-row
returns-in_err-row c =
    let s = drop c.args.at c.args.text.now in
    let lead : get_or s 0 0 ≡ c.in_ok-lead.field-0.now = lead_of c.args.text.now c.args.at ∙ sym (c.in_ok-lead.ensures.lookup.3.1 0) in
    rw c.from_residual-in_err-row.ensures (none_begun s (rw lead c.in_err-row.ensures)).0

pub returns-then-agreeing-row : goal.returns-then-agreeing-row
returns-then-agreeing-row c =
    let s = drop c.args.at c.args.text.now in
    let lead : get_or s 0 0 ≡ c.in_ok-lead.field-0.now = lead_of c.args.text.now c.args.at ∙ sym (c.in_ok-lead.ensures.lookup.3.1 0) in
    sequence_cut s c.in_ok-row.row.now (rw lead c.in_ok-row.ensures.1) c.agreeing.result (rw take_rest at c.agreeing.ensures) c.if-agreeing-row.true

pub returns : goal.returns
returns c =
    let s = drop c.args.at c.args.text.now in
    let lead : get_or s 0 0 ≡ c.in_ok-lead.field-0.now = lead_of c.args.text.now c.args.at ∙ sym (c.in_ok-lead.ensures.lookup.3.1 0) in
    let whole = sequence_whole s c.in_ok-row.row.now (rw lead c.in_ok-row.ensures.1) c.agreeing.result (rw take_rest at c.agreeing.ensures) c.if-agreeing-row.false in
    (c.in_ok-row.ensures.0, omega (arith, whole.0, length-drop c.args.at c.args.text.now, c.in_ok-lead.ensures.lookup.3.0), whole.1)
