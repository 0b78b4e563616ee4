use Rattle.run_promise.proofs.MigrationLaws.{leaves_old}
use Rattle.run_promise.proofs.laws.old_stores_are_left.Goals as goal

pub returns : goal.returns
returns c = record { left = leaves_old }
