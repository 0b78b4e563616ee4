use Rattle.table_versions.proofs.Turns.{looks}
use Rattle.table_versions.proofs.reader.enter.Goals as goal

pub enter_as-requires : goal.enter_as-requires
enter_as-requires c = looks _ _
