-- `hex_text::decimal_len` meets its contract: the digits of a number between two powers of ten, and of 0 as of 1.
use native.Mathlib.Omega.{arith}
use Rattle.hex_text.proofs.Laws.{length_power}
use Rattle.hex_text.proofs.decimal_len.Goals as goal

pub returns-clause-value : goal.returns-clause-value
returns-clause-value c = omega (arith, length_power _ _ _ c.max.ensures c.ilog10.ensures.power_le c.ilog10.ensures.next_power_gt)
