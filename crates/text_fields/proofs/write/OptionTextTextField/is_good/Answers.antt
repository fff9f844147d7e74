-- `is_good` of a text that may be absent meets its contract.
use Rattle.text_fields.specs.Fields.{is_maybe}
use Rattle.text_fields.proofs.write.OptionTextTextField.is_good.Goals as goal

pub returns-in-Some : goal.returns-in-Some
unfolding is_maybe
returns-in-Some c = rw c.in-Some.is c.is_good.ensures

pub returns-in-None : goal.returns-in-None
unfolding is_maybe
returns-in-None c = rw c.in-None.is
