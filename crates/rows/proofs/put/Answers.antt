-- `rows::put` meets its contract. The invariant: what is left of the row, put now, gives the same output as the whole row at first.
-- No more values are passed than bytes of the words.
use native.Mathlib.Omega.{arith}
use mathlib.Core.Path.{refl}
use borrow.Author.Rules.{rules}
use Rattle.rows.proofs.Laws.{row_last, row_more}
use Rattle.rows.proofs.put.Goals as goal

pub loop-at-init : goal.loop-at-init
loop-at-init c = (omega arith, (omega arith, (refl, (refl, refl))))

pub returns-then-to-words : goal.returns-then-to-words
returns-then-to-words c =
    let l = c.loop-at in row_last _ l.from _ l.invariant.0 c.find-to.ensures.value _ _ l.i _ _ _ _ _ _ _ _ c.part.ensures c.words-end.ensures l.invariant.1.1.1 c.if-to-words.true

pub loop-at-preserved : goal.loop-at-preserved
loop-at-preserved c =
    let l = c.loop-at in (
      omega (arith, c.find-to.ensures.within, c.if-to-words.false),
      (
        omega (arith, c.find-to.ensures.value, l.invariant.1.0),
        (
          search rules,
          row_more _ l.from _ l.invariant.0 c.find-to.ensures.value _ _ l.i _ _ _ _ _ _ _ _ c.part.ensures c.words-end.ensures l.invariant.1.1.1 _ _ _ c.if-to-words.false c.find-to.ensures.within.1 c.value_at.ensures c.value-end.ensures,
        ),
      ),
    )
