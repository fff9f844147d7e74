-- `hex_text::put_hex` meets its contract. The invariant: what is left to write, written now, gives the same output as writing all at first.
use native.Mathlib.Nat.{add-zero}
use native.Mathlib.Omega.{arith}
use mathlib.Core.Path.{refl, sym, ◌∙◌}
use lib.ListN.{length-set}
use Rattle.octets.proofs.Laws.{put_not}
use Rattle.hex_text.proofs.Laws.{length_spelled, spelled_more, spelled_all}
use Rattle.hex_text.proofs.put_hex.Goals as goal

pub returns-then-out-bs : goal.returns-then-out-bs
returns-then-out-bs c = sym (put_not _ _ _ (omega (arith, length_spelled c.args.bs.now)))

pub returns-then-out-bs-2 : goal.returns-then-out-bs-2
returns-then-out-bs-2 c = sym (put_not _ _ _ (omega (arith, length_spelled c.args.bs.now)))

pub loop-i-init : goal.loop-i-init
loop-i-init c = (omega arith, refl, rw add-zero)

pub loop-i-preserved : goal.loop-i-preserved
loop-i-preserved c = (
  simp length-set c.loop-i.invariant.0,
  simp length-set c.loop-i.invariant.1,
  spelled_more _ _ c.loop-i.i _ _ _ (omega arith) c.loop-i.invariant.0 c.digit_of.ensures c.digit_of-in-loop-i.ensures ∙ c.loop-i.invariant.2,
)

pub returns : goal.returns
returns c = sym (spelled_all _ c.args.at c.loop-i.i _ c.loop-i-test.false) ∙ c.loop-i.invariant.2
