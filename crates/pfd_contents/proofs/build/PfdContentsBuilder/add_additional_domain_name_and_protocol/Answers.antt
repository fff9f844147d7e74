-- `pfd_contents::PfdContentsBuilder::add_additional_domain_name_and_protocol` meets its contract: its list, with-entry.
use Rattle.pfd_contents.specs.Builder.{with_names}
use Rattle.pfd_contents.proofs.Building.{add_to}
use Rattle.pfd_contents.proofs.build.PfdContentsBuilder.add_additional_domain_name_and_protocol.Goals as goal

pub returns : goal.returns
returns c = add_to (with_names c.args.self) _ _ _ c.with_entry-step.ensures c.additional_domain_names_and_protocols-builder.ensures
