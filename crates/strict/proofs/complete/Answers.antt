-- `strict::complete` meets its contract: the eight tests in a row, of what the record means.
use Rattle.pfd_contents.specs.PfdContents.{meaning}
use Rattle.text_fields.specs.Fields.{list_meaning}
use Rattle.strict.specs.Strict as spec
use Rattle.strict.proofs.Laws.{text_present, non_empty_is_law}
use Rattle.strict.proofs.complete.Goals as goal

pub returns : goal.returns
unfolding spec.complete meaning list_meaning
returns c = λ s.
    simp (text_present, non_empty_is_law)
    (rw (c.still_complete.ensures, c.still_complete-urls.ensures, c.still_complete-flows.ensures, c.still_complete-protocol.ensures, c.still_complete-custom.ensures, c.still_complete-domain.ensures, c.still_complete-url.ensures, c.still_complete-flow.ensures, c.is_some.ensures, c.is_some-2.ensures, c.is_some-3.ensures, c.is_some-4.ensures, c.is_some-5.ensures))
