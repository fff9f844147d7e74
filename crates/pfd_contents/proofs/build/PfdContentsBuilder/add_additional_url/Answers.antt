-- `pfd_contents::PfdContentsBuilder::add_additional_url` meets its contract: its list, with-entry.
use Rattle.pfd_contents.specs.Builder.{with_urls}
use Rattle.pfd_contents.proofs.Building.{add_to}
use Rattle.pfd_contents.proofs.build.PfdContentsBuilder.add_additional_url.Goals as goal

pub returns : goal.returns
returns c = add_to (with_urls c.args.self) _ _ _ c.with_entry-step.ensures c.additional_urls-builder.ensures
