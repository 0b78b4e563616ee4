use Rattle.opl_object.proofs.FieldSteps.{user_read}
use Rattle.opl_object.proofs.head.passed_end.Goals as goal

pub returns-in-User-clause-end : goal.returns-in-User-clause-end
returns-in-User-clause-end c = user_read c.args.letter c.plain_end.result c.args.text.now c.in-User.is c.plain_end.ensures.end
