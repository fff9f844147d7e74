-- `pfd_contents::PfdContents::flow_description` meets its contract: one setter and a build.
use Rattle.text_fields.specs.Fields.{text_of}
use Rattle.pfd_contents.specs.Builder.{with_flow}
use Rattle.pfd_contents.specs.declared.build.PfdContentsBuilder.{PfdContentsBuilder}
use Rattle.pfd_contents.proofs.Building.{set_one}
use Rattle.pfd_contents.proofs.PfdContents.flow_description.Goals as goal

pub returns : goal.returns
returns c =
    let a = c.args in
    set_one (λ (b : PfdContentsBuilder). with_flow b (text_of a.place a.len)) _ _ _ _ c.new.ensures c.flow_description.ensures c.build.ensures
