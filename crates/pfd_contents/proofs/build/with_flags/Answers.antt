-- `pfd_contents::build::with_flags` meets its contract.
use Rattle.pfd_contents.proofs.Building.{flagged}
use Rattle.pfd_contents.proofs.build.with_flags.Goals as goal

pub returns : goal.returns
returns c = flagged _ _ c.is_some.ensures c.is_some-2.ensures c.is_some-3.ensures c.is_some-4.ensures c.is_some-5.ensures c.is_empty.ensures c.is_empty-2.ensures c.is_empty-3.ensures c.flag_byte-flags.ensures
