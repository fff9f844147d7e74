-- `put` of a text that may be absent meets its contract: by whether it is there, then by whether there is room; two puts are one.
use native.Mathlib.Omega.{arith}
use Rattle.text_fields.proofs.Stores.{none_put, text_not, text_put}
use Rattle.text_fields.proofs.write.OptionTextTextField.put.Goals as goal

pub returns-in_default : goal.returns-in_default
returns-in_default c = let a = c.args in rw c.in_default.is (let all = none_put a.out.now a.at a.texts.now in record { value = all.0; out_after = all.1 })

pub returns-then-out-lt2 : goal.returns-then-out-lt2
returns-then-out-lt2 c = let a = c.args in rw c.in-Some.is (let all = text_not a.out.now a.at a.texts.now c.in-Some.text _ c.of-bytes.ensures (omega arith) in record { value = all.0; out_after = all.1 })

pub returns-then-out-at : goal.returns-then-out-at
returns-then-out-at c = let a = c.args in rw c.in-Some.is (let all = text_not a.out.now a.at a.texts.now c.in-Some.text _ c.of-bytes.ensures (omega arith) in record { value = all.0; out_after = all.1 })

pub returns-then-out-start : goal.returns-then-out-start
returns-then-out-start c = let a = c.args in rw c.in-Some.is (let all = text_not a.out.now a.at a.texts.now c.in-Some.text _ c.of-bytes.ensures (omega arith) in record { value = all.0; out_after = all.1 })

pub returns : goal.returns
returns c = let a = c.args in rw c.in-Some.is (let all = text_put a.out.now a.at a.texts.now c.in-Some.text _ c.of-bytes.ensures _ _ (omega arith) c.put_number.ensures c.put_bytes.ensures in record { value = all.0; out_after = all.1 })
