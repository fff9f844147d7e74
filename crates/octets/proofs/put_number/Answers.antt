-- `octets::put_number` meets its contract. The invariant: what is left to write, written now, gives the same output as writing all at first.
use mathlib.Core.Path.{refl, sym, ◌∙◌}
use native.Mathlib.Omega.{arith}
use Rattle.octets.proofs.Laws.{length_big_endian_bytes_law, over_number, over_none, put_fits, put_not}
use Rattle.octets.proofs.put_number.Goals as goal

pub returns-then-out-w : goal.returns-then-out-w
returns-then-out-w c = sym (put_not _ _ _ (omega (arith, length_big_endian_bytes_law c.args.w c.args.x)))

pub returns-then-out-w-2 : goal.returns-then-out-w-2
returns-then-out-w-2 c = sym (put_not _ _ _ (omega (arith, length_big_endian_bytes_law c.args.w c.args.x)))

pub loop-i-init : goal.loop-i-init
loop-i-init c = refl

pub loop-i-preserved : goal.loop-i-preserved
loop-i-preserved c = over_number _ _ _ _ (omega arith) (omega arith) ∙ c.loop-i.invariant

pub returns : goal.returns
returns c = sym (over_none _ _ _ _ (omega arith)) ∙ c.loop-i.invariant ∙ sym (put_fits _ _ _ (omega (arith, length_big_endian_bytes_law c.args.w c.args.x)))
