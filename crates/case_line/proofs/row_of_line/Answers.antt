-- `case_line::row_of_line` meets its contract: by the letter and the space that a line begins with, and its payload.
use mathlib.Core.Path.{sym, ◌∙◌}
use Rattle.case_line.proofs.Laws.{text_row, too_short, no_space, shaped, take_most}
use Rattle.case_line.proofs.row_of_line.Goals as goal

pub returns-then-line-lt2 : goal.returns-then-line-lt2
returns-then-line-lt2 c = record { bytes_after = sym (too_short _ c.if-line-lt2.true); len_bound = tt }

pub returns-then-line-ne32 : goal.returns-then-line-ne32
returns-then-line-ne32 c = record { bytes_after = sym (no_space _ c.if-line-ne32.true); len_bound = tt }

pub returns-in_err-len : goal.returns-in_err-len
returns-in_err-len c =
    rw c.from_residual.ensures (record { bytes_after = sym (shaped _ c.if-line-ne32.false ∙ text_row _ _ _ _ _ c.find_payload.ensures.text_value c.in_err-len.was); len_bound = tt })

pub row_for-requires : goal.row_for-requires
row_for-requires c = rw c.requires (take_most _ _ _ (rw c.in_ok-len.was at c.find_payload.ensures.len_bound))

pub returns : goal.returns
returns c =
    record { bytes_after = c.row_for.ensures.bytes_after ∙ sym (shaped _ c.if-line-ne32.false ∙ text_row _ _ _ _ _ c.find_payload.ensures.text_value c.in_ok-len.was); len_bound = rw c.requires at c.row_for.ensures.len_in_bounds }
