-- `words::decimal` meets its contract.
use Rattle.std.proofs.Common.{rules, sym, ◌∙◌}
use Rattle.words.proofs.Laws.{decimal_none, decimal_some, decimal_stop, decimal_fits, decimal_more, decimal_all}
use Rattle.words.proofs.decimal.Goals as goal

pub returns-then-is_empty : goal.returns-then-is_empty
returns-then-is_empty c = sym (decimal_none _ (search rules))

pub loop-b-init : goal.loop-b-init
loop-b-init c = (search rules, decimal_some _ (search rules))

pub returns-in_err-n : goal.returns-in_err-n
returns-in_err-n c =
    let l = c.loop-b in
    c.from_residual.ensures ∙ decimal_stop _ l.n l.b-index c.loop-b-test.true l.invariant.1 (sym c.with_digit.ensures ∙ c.in_err-n.was)

pub loop-b-preserved : goal.loop-b-preserved
loop-b-preserved c =
    let l = c.loop-b in
    let good = sym c.with_digit.ensures ∙ c.in_ok-n.was in
    (decimal_fits _ l.n l.b-index c.loop-b-test.true l.invariant.1 _ good, decimal_more _ l.n l.b-index c.loop-b-test.true l.invariant.1 _ good)

pub returns : goal.returns
returns c = let l = c.loop-b in decimal_all _ l.n l.b-index (search rules) l.invariant.0 l.invariant.1
