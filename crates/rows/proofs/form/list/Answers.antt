-- `rows::form::list` meets its contract. The invariant: the texts that are left, put now, give the same output as all of them at first.
use Prim.Native.Nat.{◌+◌, ◌-◌}
use native.Mathlib.Omega.{arith}
use mathlib.Core.Path.{◌≡◌, refl}
use lib.ListN.{drop}
use Rattle.rows.proofs.Laws.{some_one, bracketed_none, bracketed_some, list_more, list_last}
use borrow.Author.Rules.{rules}
use Rattle.rows.proofs.form.list.Goals as goal

pub returns-then-count-eq0 : goal.returns-then-count-eq0
returns-then-count-eq0 c =
    let a = c.args in
    rw (bracketed_none a.count (drop a.place a.slice.now) c.if-count-eq0.true) (some_one _ _ _ _ _ c.words.ensures)

pub loop-init : goal.loop-init
loop-init c =
    let a = c.args in
    let all : a.count - 0 ≡ a.count = omega arith in
    (refl, rw (all, bracketed_some a.count (drop a.place a.slice.now) c.if-count-eq0.false) (refl, refl))

pub loop-preserved : goal.loop-preserved
loop-preserved c =
    let l = c.loop in
    let n = c.args.count - l.counter in
    let less : c.args.count - (l.counter + 1) ≡ n - 1 = omega arith in (
      search rules,
      rw less (list_more c.args.slice.now l.next _ _ _ (omega arith) c.length_at-len.ensures c.saturating_add-from.ensures c.saturating_add-next.ensures _ n _ _ _ _ _ _ _ _ (omega arith) c.part.ensures c.entry-end.ensures l.invariant.1),
    )

pub returns : goal.returns
returns c =
    let l = c.loop in
    list_last _ (c.args.count - l.counter) _ _ _ _ _ _ _ _ (omega arith) c.byte.ensures l.invariant.1
