use Rattle.geom_workers.proofs.Agreeing.{agree}
use Rattle.geom_workers.proofs.laws.rows_agree.Goals as goal

pub returns : goal.returns
returns c = record { agree = agree }
