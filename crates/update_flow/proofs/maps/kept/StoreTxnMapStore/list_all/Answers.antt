-- What the call on the index answers is what the maps answer.
use Rattle.std.proofs.Common.{Ok, Err, refl}
use Rattle.update_flow.specs.maps.Calls.{buckets_of, style_in}
use Rattle.update_flow.proofs.Filled.{fill_sound, fills_set}
use Rattle.update_flow.proofs.Findings.{touched_index}
use Rattle.update_flow.proofs.Keeping.{allowed_sound, over_ready, sets_done, sets_stopped}
use Rattle.update_flow.proofs.maps.kept.StoreTxnMapStore.list_all.Goals as goal

pub fill-requires : goal.fill-requires
fill-requires g c = record { ready = over_ready c.args.self.now c.requires }

pub returns-in-Ok-clause-holds : goal.returns-in-Ok-clause-holds
returns-in-Ok-clause-holds g c under maps had none =
    fills_set (buckets_of c.args.self.now) c.fill.new.buckets (style_in c.args.self.now).tables c.args.entries.now under maps
    c.in-Ok.ensures.fills had none

pub returns-in-Ok-clause-sets : goal.returns-in-Ok-clause-sets
returns-in-Ok-clause-sets g c =
    let touches = c.in-Ok.ensures.touches in
    sets_done c.args.self.now _ c.requires refl tt refl
    (touched_index (buckets_of c.args.self.now) c.fill.new.buckets (Ok tt) touches.answers touches.reads)

pub returns-in-Err-clause-sets : goal.returns-in-Err-clause-sets
returns-in-Err-clause-sets g c =
    sets_stopped c.args.self.now _ c.requires refl (Unit {0}) c.in-Err.fault refl
    (touched_index (buckets_of c.args.self.now) c.fill.new.buckets {T = Unit {0}} (Err c.in-Err.fault) c.in-Err.ensures.touches.answers tt)

pub returns-in-Err-clause-allowed : goal.returns-in-Err-clause-allowed
returns-in-Err-clause-allowed g c under maps had =
    allowed_sound (Unit {0}) c.in-Err.fault
    (fill_sound (Err c.in-Err.fault) (c.in-Err.ensures.touches.stops under.rest had.now had.has))
