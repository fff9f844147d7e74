-- `details::texted::run_place` meets its contract: a number behind a sign, where it is shown.
use Rattle.details.proofs.texted.run_place.Goals as goal

pub returns : goal.returns
returns c = rw (← c.both.ensures) c.signed.ensures
