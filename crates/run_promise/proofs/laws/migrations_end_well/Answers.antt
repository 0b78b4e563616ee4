use Rattle.run_promise.proofs.MigrationLaws.{migrated_well}
use Rattle.run_promise.proofs.laws.migrations_end_well.Goals as goal

pub returns : goal.returns
returns c = record { migrated = migrated_well }
