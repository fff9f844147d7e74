-- `pfd_contents::PfdContents::domain_and_protocol` meets its contract: two setters and a build.
use Rattle.text_fields.specs.Fields.{text_of}
use Rattle.pfd_contents.specs.Builder.{with_domain, with_protocol}
use Rattle.pfd_contents.specs.declared.build.PfdContentsBuilder.{PfdContentsBuilder}
use Rattle.pfd_contents.proofs.Building.{set_two}
use Rattle.pfd_contents.proofs.PfdContents.domain_and_protocol.Goals as goal

pub returns : goal.returns
returns c =
    let a = c.args in
    set_two (λ (b : PfdContentsBuilder). with_domain b (text_of a.domain_place a.domain_len)) (λ (b : PfdContentsBuilder). with_protocol b (text_of a.protocol_place a.protocol_len)) _ _ _ _ _ c.new.ensures c.domain_name.ensures c.domain_name_protocol.ensures c.build.ensures
