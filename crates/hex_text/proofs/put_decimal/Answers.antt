-- `hex_text::put_decimal` meets its contract. The invariant: what is left to write, written now, gives the same output as writing all at first.
use native.Mathlib.Omega.{arith}
use mathlib.Core.Path.{refl, sym, ◌∙◌}
use lib.ListN.{length-set}
use Rattle.octets.proofs.Laws.{put_fits, put_not}
use Rattle.hex_text.proofs.Laws.{still_all, still_length, still_more, still_none}
use Rattle.hex_text.proofs.put_decimal.Goals as goal

pub returns-then-out-len : goal.returns-then-out-len
returns-then-out-len c = sym (put_not _ _ _ (omega arith))

pub returns-then-out-len-2 : goal.returns-then-out-len-2
returns-then-out-len-2 c = sym (put_not _ _ _ (omega arith))

pub loop-i-init : goal.loop-i-init
loop-i-init c =
    let e = still_all c.args.n _ c.decimal_len-len.ensures.value in
    rw e (c.decimal_len-len.ensures.value, omega arith, refl, sym (put_fits _ _ _ (omega arith)))

pub loop-i-preserved : goal.loop-i-preserved
loop-i-preserved c =
    let l = c.loop-i in (
      still_length l.i l.rest c.loop-i-test.true l.invariant.0,
      simp length-set (omega arith),
      simp length-set l.invariant.2,
      still_more _ _ l.i l.rest _ c.loop-i-test.true l.invariant.0 l.invariant.1 c.digit_of.ensures ∙ l.invariant.3,
    )

pub returns : goal.returns
returns c = sym (still_none _ _ c.loop-i.i _ c.loop-i-test.false) ∙ c.loop-i.invariant.3
