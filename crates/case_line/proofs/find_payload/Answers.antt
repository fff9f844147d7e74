-- `case_line::find_payload` meets its contract: by how many characters there are.
use Rattle.case_line.proofs.Laws.{payload_none, payload_dash, payload_pairs}
use Rattle.case_line.proofs.find_payload.Goals as goal

pub returns-then-n-eq0 : goal.returns-then-n-eq0
returns-then-n-eq0 c = record { text_value = payload_none _ c.if-n-eq0.true; len_bound = tt }

pub returns-then-n-eq1 : goal.returns-then-n-eq1
returns-then-n-eq1 c = payload_dash _ _ _ c.if-n-eq1.true c.then_some.ensures

pub returns : goal.returns
returns c = payload_pairs _ _ _ _ _ c.if-n-eq0.false c.if-n-eq1.false c.requires c.parse-len.ensures.value c.parse-len.ensures.out_after c.parse-len.ensures.upper_bound c.then_some-2.ensures
