-- `pfd_contents::PfdContents::domain_name` meets its contract: one setter and a build.
use Rattle.text_fields.specs.Fields.{text_of}
use Rattle.pfd_contents.specs.Builder.{with_domain}
use Rattle.pfd_contents.specs.declared.build.PfdContentsBuilder.{PfdContentsBuilder}
use Rattle.pfd_contents.proofs.Building.{set_one}
use Rattle.pfd_contents.proofs.PfdContents.domain_name.Goals as goal

pub returns : goal.returns
returns c =
    let a = c.args in
    set_one (λ (b : PfdContentsBuilder). with_domain b (text_of a.place a.len)) _ _ _ _ c.new.ensures c.domain_name.ensures c.build.ensures
