-- `pfd_contents::PfdContents::marshal` meets its contract: by the lent slice, the fields, the length, and the room.
use Rattle.octets.proofs.Laws.{bytes_each}
use Rattle.pfd_contents.proofs.Answers.{long, bad, too_wide, no_room, done}
use Rattle.pfd_contents.proofs.PfdContents.marshal.Goals as goal

pub returns-then-n-gt65535 : goal.returns-then-n-gt65535
returns-then-n-gt65535 c = let all = long _ _ _ _ c.if-n-gt65535.true c.unwritten.ensures in record { value = all.0; out_after = all.1 }

pub returns-in-Some : goal.returns-in-Some
returns-in-Some c = let all = bad _ _ _ c.if-n-gt65535.false _ c.bad_field.ensures _ _ c.in-Some.is c.unwritten-in-Some.ensures in record { value = all.0; out_after = all.1 }

pub returns-then-len-gt65535 : goal.returns-then-len-gt65535
returns-then-len-gt65535 c =
    let ok = bytes_each c.args.texts.now (λ i. (c.shared_slice_known-1.given i).fits) in let all = too_wide _ _ _ c.if-n-gt65535.false _ c.bad_field.ensures c.in_default.is ok _ c.form_width-len.ensures _ c.if-len-gt65535.true c.unwritten-then-len-gt65535.ensures in record { value = all.0; out_after = all.1 }

pub returns-then-out-len : goal.returns-then-out-len
returns-then-out-len c =
    let ok = bytes_each c.args.texts.now (λ i. (c.shared_slice_known-1.given i).fits) in let all = no_room _ _ _ c.if-n-gt65535.false _ c.bad_field.ensures c.in_default.is ok _ c.form_width-len.ensures c.if-len-gt65535.false _ c.if-out-len.true c.unwritten-then-out-len.ensures in record { value = all.0; out_after = all.1 }

pub returns : goal.returns
returns c =
    let ok = bytes_each c.args.texts.now (λ i. (c.shared_slice_known-1.given i).fits) in let all = done _ _ _ c.if-n-gt65535.false _ c.bad_field.ensures c.in_default.is ok _ c.form_width-len.ensures c.if-len-gt65535.false _ c.if-out-len.false c.put_form.ensures in record { value = all.0; out_after = all.1 }
