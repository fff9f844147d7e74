use Rattle.text.proofs.is_good.Goals as goal

pub returns : goal.returns
returns c = rw c.well_formed-2.ensures.value
