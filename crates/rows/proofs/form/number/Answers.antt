-- `rows::form::number` meets its contract: two numbers of eight bytes, one behind the other, and the last of their bytes.
use mathlib.Core.Path.{refl}
use Rattle.rows.proofs.Laws.{in_hex}
use Rattle.rows.proofs.form.number.Goals as goal

pub returns : goal.returns
returns c = in_hex _ _ _ _ _ _ _ _ _ _ _ _ refl c.put_number.ensures c.put_number-2.ensures c.saturating_sub.ensures c.part.ensures c.digits.ensures
