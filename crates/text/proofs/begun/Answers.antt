use mathlib.Core.Path.{sym}
use Rattle.text.proofs.Table.{first_is, nothing_begun, none_begun, begun_row}
use Rattle.text.proofs.begun.Goals as goal

pub returns-in_default : goal.returns-in_default
returns-in_default c = sym (nothing_begun c.args.text.now c.in_default.ensures.value).1

pub returns-in_default-row_of : goal.returns-in_default-row_of
returns-in_default-row_of c =
    let first = first_is c.args.text.now c.in-Some.lead.now c.in-Some.ensures.value in
    sym (none_begun c.args.text.now (rw first.1 c.in_default-row_of.ensures)).1

pub returns : goal.returns
returns c =
    let first = first_is c.args.text.now c.in-Some.lead.now c.in-Some.ensures.value in
    begun_row c.args.text.now c.in-Some-row_of.row.now (rw first.1 c.in-Some-row_of.ensures.1) c.agreeing.result c.agreeing.ensures
