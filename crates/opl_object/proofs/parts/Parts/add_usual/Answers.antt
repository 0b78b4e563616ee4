use Rattle.opl_object.proofs.FieldSteps.{kept_by}
use Rattle.opl_object.proofs.parts.Parts.add_usual.Goals as goal

pub returns-in_default-clause-end : goal.returns-in_default-clause-end
returns-in_default-clause-end c = kept_by c.args.letter c.passed_end.result c.args.text.now c.args.self.now c.passed_end.ensures.end
