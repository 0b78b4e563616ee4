use Rattle.std.proofs.Common.{arith}
use Rattle.opl_object.proofs.Fronts.{small_id}
use Rattle.opl_object.proofs.number.usual_id.Goals as goal

pub returns-clause-id : goal.returns-clause-id
returns-clause-id c = small_id c.args.text.now c.in_ok-id.len c.in_ok-id.id c.in_ok-id.ensures.len (omega arith)
    (omega arith) c.in_ok-id.ensures.small c.in_ok-id.ensures.value
