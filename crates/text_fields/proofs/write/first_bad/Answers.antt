-- `text_fields::write::first_bad` meets its contract: by what was found before, then by the field.
use Rattle.text_fields.specs.Steps.{first_bad}
use Rattle.text_fields.proofs.write.first_bad.Goals as goal

pub returns-in-Some : goal.returns-in-Some
unfolding first_bad
returns-in-Some g c = rw c.in-Some.is

pub returns-in-None : goal.returns-in-None
unfolding first_bad
returns-in-None g c = rw (c.in-None.is, ← c.is_good.ensures, c.if-is_good.true)

pub returns-in-None-2 : goal.returns-in-None-2
unfolding first_bad
returns-in-None-2 g c = rw (c.in-None.is, ← c.is_good.ensures, c.if-is_good.false)
