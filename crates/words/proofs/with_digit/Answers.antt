-- `words::with_digit` meets its contract: by the character, and by whether the number fits.
use Rattle.std.proofs.Common.{sym, ◌∙◌, arith}
use Rattle.words.proofs.Laws.{digit_no, digit_over, digit_sum}
use Rattle.words.proofs.with_digit.Goals as goal

pub returns-then-not-is_ascii_digit : goal.returns-then-not-is_ascii_digit
returns-then-not-is_ascii_digit c = sym (digit_no _ _ (sym c.is_ascii_digit.ensures.value ∙ c.if-not-is_ascii_digit.true))

pub returns-in_err-checked_mul : goal.returns-in_err-checked_mul
returns-in_err-checked_mul c =
    let digit = sym c.is_ascii_digit.ensures.value ∙ c.if-not-is_ascii_digit.false in
    c.from_residual.ensures ∙ sym (digit_over _ _ digit (omega (arith, c.in_err-checked_mul.ensures)))

pub returns : goal.returns
returns c =
    let digit = sym c.is_ascii_digit.ensures.value ∙ c.if-not-is_ascii_digit.false in
    digit_sum _ _ digit _ _ c.in_ok-checked_mul.ensures.1 c.checked_add.ensures
