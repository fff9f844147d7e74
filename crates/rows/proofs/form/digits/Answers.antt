-- `rows::form::digits` meets its contract: two digits a byte.
use native.Mathlib.Omega.{arith}
use Rattle.hex_text.proofs.Laws.{length_spelled}
use Rattle.rows.proofs.form.digits.Goals as goal

pub returns : goal.returns
returns c = record { value = omega (arith, length_spelled c.args.bs.now); out_after = c.put_hex.ensures }
