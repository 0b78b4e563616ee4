use Rattle.std.proofs.Common.{sym}
use Rattle.map_query.proofs.Tables.{position_within}
use Rattle.map_query.proofs.words.table_in.Goals as goal

pub returns-in-Some-clause-there : goal.returns-in-Some-clause-there
returns-in-Some-clause-there c = position_within _ _ _ (sym c.in-Some.ensures.table)
