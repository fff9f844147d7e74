-- `text_fields::TextList::with_entry` meets its contract: by the lent slice, then by the tests joined, then by the entry, then by whether it is the first.
use mathlib.Core.Path.{refl}
use native.Mathlib.Omega.{arith}
use Rattle.text_fields.proofs.Adding.{add_long, add_not, add_none, add_onward, add_first, add_behind, add_place, add_count}
use Rattle.text_fields.proofs.TextList.with_entry.Goals as goal

pub returns-then-n-gt65535 : goal.returns-then-n-gt65535
returns-then-n-gt65535 c = search add_long

pub returns-then-not-both : goal.returns-then-not-both
returns-then-not-both c = add_not _ _ _ _ c.if-n-gt65535.false _ refl _ _ _ c.is_behind.ensures c.is_list.ensures c.both.ensures c.if-not-both.true-raw

pub returns-in_default : goal.returns-in_default
returns-in_default c = add_none _ _ _ _ c.if-n-gt65535.false _ c.entry_end.ensures _ _ _ c.is_behind.ensures c.is_list.ensures c.both.ensures c.if-not-both.false-raw c.in_default.is

pub overflow_sub-list : goal.overflow_sub-list
overflow_sub-list c = add_onward _ _ 0 _ c.if-n-gt65535.false _ c.entry_end.ensures _ _ _ c.is_behind.ensures c.is_list.ensures c.both.ensures c.if-not-both.false-raw _ c.in-Some.is

pub overflow_sub-list-else-is_empty : goal.overflow_sub-list-else-is_empty
overflow_sub-list-else-is_empty c = add_place _ _ 0 _ c.if-n-gt65535.false _ c.entry_end.ensures _ _ _ c.is_behind.ensures c.is_list.ensures c.both.ensures c.if-not-both.false-raw _ c.in-Some.is _ c.is_empty.ensures c.if-is_empty.false

pub overflow_add-list : goal.overflow_add-list
overflow_add-list c =
    omega (arith, add_count _ _ 0 _ c.if-n-gt65535.false _ c.entry_end.ensures _ _ _ c.is_behind.ensures c.is_list.ensures c.both.ensures c.if-not-both.false-raw _ c.in-Some.is _ c.is_empty.ensures c.if-is_empty.false)

pub returns-then-is_empty : goal.returns-then-is_empty
returns-then-is_empty c = add_first _ _ _ _ c.if-n-gt65535.false _ c.entry_end.ensures _ _ _ c.is_behind.ensures c.is_list.ensures c.both.ensures c.if-not-both.false-raw _ c.in-Some.is _ c.is_empty.ensures c.if-is_empty.true

pub returns-else-is_empty : goal.returns-else-is_empty
returns-else-is_empty c = add_behind _ _ _ _ c.if-n-gt65535.false _ c.entry_end.ensures _ _ _ c.is_behind.ensures c.is_list.ensures c.both.ensures c.if-not-both.false-raw _ c.in-Some.is _ c.is_empty.ensures c.if-is_empty.false
