-- `pfd_contents::PfdContents::flow_and_url` meets its contract: two setters and a build.
use Rattle.text_fields.specs.Fields.{text_of}
use Rattle.pfd_contents.specs.Builder.{with_flow, with_url}
use Rattle.pfd_contents.specs.declared.build.PfdContentsBuilder.{PfdContentsBuilder}
use Rattle.pfd_contents.proofs.Building.{set_two}
use Rattle.pfd_contents.proofs.PfdContents.flow_and_url.Goals as goal

pub returns : goal.returns
returns c =
    let a = c.args in
    set_two (λ (b : PfdContentsBuilder). with_flow b (text_of a.flow_place a.flow_len)) (λ (b : PfdContentsBuilder). with_url b (text_of a.url_place a.url_len)) _ _ _ _ _ c.new.ensures c.flow_description.ensures c.url.ensures c.build.ensures
