use Rattle.value_bytes.proofs.NodeLaws.{record_front, record_no_place, record_no_tags}
use Rattle.value_bytes.proofs.nodes.NodeRecordSpelled.front.Goals as goal
use Rattle.value_bytes.proofs.Fronts.{needs_more}

pub returns-in-Err-clause-refused : goal.returns-in-Err-clause-refused
returns-in-Err-clause-refused c = needs_more c.in-Err.fault (record_no_place c.args.bytes.now) c.in-Err.ensures.refused

pub returns-in-Err-front-clause-refused : goal.returns-in-Err-front-clause-refused
returns-in-Err-front-clause-refused c =
    needs_more c.in-Err-front.fault (record_no_tags c.args.bytes.now c.in-Ok.found.0 c.in-Ok.found.1.now c.in-Ok.ensures.value)
    c.in-Err-front.ensures.refused

pub returns-clause-value : goal.returns-clause-value
returns-clause-value c =
    record_front c.args.bytes.now c.in-Ok.found.1.now c.in-Ok-front.found.1.now _ c.in-Ok.ensures.value c.in-Ok-front.ensures.value
