-- `strict::pfd_contents` meets its contract: what was read is what the definition reads.
use Rattle.strict.specs.Strict.{verdict}
use Rattle.strict.proofs.pfd_contents.Goals as goal

pub returns : goal.returns
unfolding verdict
returns c =
    let v = c.verdict.ensures in
    rw (v.2, v.1 c.args.payload.now, c.unmarshal.ensures)
