-- `text_fields::add::is_behind` meets its contract: by whether the list is empty, then by its run.
use Rattle.text_fields.proofs.Adding.{behind_none, before_run, behind_run}
use Rattle.text_fields.proofs.add.is_behind.Goals as goal

pub returns-then-is_empty : goal.returns-then-is_empty
returns-then-is_empty c = search behind_none

pub returns-then-at-start : goal.returns-then-at-start
returns-then-at-start c = search before_run

pub returns : goal.returns
returns c = search behind_run
