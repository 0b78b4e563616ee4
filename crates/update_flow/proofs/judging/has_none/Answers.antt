use Rattle.update_flow.proofs.Judgements.{none_told}
use Rattle.update_flow.proofs.judging.has_none.Goals as goal

pub returns : goal.returns
returns c = none_told c.args.bytes.now
