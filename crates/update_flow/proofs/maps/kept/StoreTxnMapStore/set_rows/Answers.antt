-- What the call on the buckets answers is what the maps answer.
use Rattle.std.proofs.Common.{refl}
use Rattle.update_flow.proofs.Keeping.{allowed_sound, over_ready, sets_done, sets_stopped}
use Rattle.update_flow.proofs.maps.kept.StoreTxnMapStore.set_rows.Goals as goal

pub keep_rows-requires-clause-ready : goal.keep_rows-requires-clause-ready
keep_rows-requires-clause-ready g c = over_ready c.args.self.now c.requires.spent

pub returns-in-Ok-clause-holds : goal.returns-in-Ok-clause-holds
returns-in-Ok-clause-holds g c = c.in-Ok.ensures.sets

pub returns-in-Ok-clause-sets : goal.returns-in-Ok-clause-sets
returns-in-Ok-clause-sets g c = sets_done c.args.self.now _ c.requires.spent refl tt refl c.in-Ok.ensures.puts.touched

pub returns-in-Err-clause-sets : goal.returns-in-Err-clause-sets
returns-in-Err-clause-sets g c = sets_stopped c.args.self.now _ c.requires.spent refl
    (Unit {0}) c.in-Err.fault refl c.in-Err.ensures.puts.touched

pub returns-in-Err-clause-allowed : goal.returns-in-Err-clause-allowed
returns-in-Err-clause-allowed g c under maps had =
    allowed_sound (Unit {0}) c.in-Err.fault (c.in-Err.ensures.puts.sound under.rest had.now had.has)
