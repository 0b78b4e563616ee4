-- What the call on the index answers is what the maps answer.
use Rattle.std.proofs.Common.{Ok, Err, refl, subst}
use Rattle.osm_base.specs.values.Key.{KeyOf, IsId}
use Rattle.update_flow.specs.maps.Calls.{buckets_of, style_in}
use Rattle.update_flow.proofs.Findings.{touched_index}
use Rattle.update_flow.proofs.Keeping.{allowed_sound, over_ready, sets_done, sets_stopped}
use Rattle.update_flow.proofs.Settings.{relist_sound, relists_set}
use Rattle.update_flow.proofs.maps.kept.StoreTxnMapStore.relist.Goals as goal

pub relist-requires : goal.relist-requires
relist-requires g c = record { ready = over_ready c.args.self.now c.requires.spent }

pub returns-in-Ok-clause-holds : goal.returns-in-Ok-clause-holds
returns-in-Ok-clause-holds g c under maps had =
    relists_set (buckets_of c.args.self.now) c.relist.new.buckets (style_in c.args.self.now).tables c.args.key c.args.old.now c.args.new.now
    under maps (subst (λ (k : KeyOf). IsId k.id) c.key.view_is c.key.invariant) c.in-Ok.ensures.relists had

pub returns-in-Ok-clause-within : goal.returns-in-Ok-clause-within
returns-in-Ok-clause-within g c may olds news only = c.in-Ok.ensures.touches.within may (olds, news) only

pub returns-in-Ok-clause-sets : goal.returns-in-Ok-clause-sets
returns-in-Ok-clause-sets g c =
    let touches = c.in-Ok.ensures.touches in
    sets_done c.args.self.now _ c.requires.spent refl tt refl
    (touched_index (buckets_of c.args.self.now) c.relist.new.buckets (Ok tt) touches.answers touches.reads)

pub returns-in-Err-clause-within : goal.returns-in-Err-clause-within
returns-in-Err-clause-within g c may olds news only = c.in-Err.ensures.touches.within may (olds, news) only

pub returns-in-Err-clause-sets : goal.returns-in-Err-clause-sets
returns-in-Err-clause-sets g c =
    sets_stopped c.args.self.now _ c.requires.spent refl (Unit {0}) c.in-Err.fault refl
    (touched_index (buckets_of c.args.self.now) c.relist.new.buckets {T = Unit {0}}
    (Err c.in-Err.fault) c.in-Err.ensures.touches.answers tt)

pub returns-in-Err-clause-allowed : goal.returns-in-Err-clause-allowed
returns-in-Err-clause-allowed g c under maps had told =
    allowed_sound (Unit {0}) c.in-Err.fault
    (relist_sound (buckets_of c.args.self.now) c.relist.new.buckets (style_in c.args.self.now).tables c.args.key c.args.old.now
    c.args.new.now (Err c.in-Err.fault) c.in-Err.ensures.touches.stops under maps had told)
