use Rattle.stage_core.proofs.Rounds.{grows_from, promised_all}
use Rattle.stage_core.proofs.laws.each_ticket_once.Goals as goal

pub returns-clause-promise : goal.returns-clause-promise
returns-clause-promise c = promised_all

pub returns-clause-grows : goal.returns-clause-grows
returns-clause-grows c = grows_from
