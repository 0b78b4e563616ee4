use Rattle.delta_feed.proofs.BlockTrips.{delta_only, full_only}
use Rattle.delta_feed.proofs.laws.blocks_are_read_back.Goals as goal

pub returns-clause-full : goal.returns-clause-full
returns-clause-full c = full_only

pub returns-clause-delta : goal.returns-clause-delta
returns-clause-delta c = delta_only
