-- What the call on the buckets answers is what the maps answer.
use Rattle.std.proofs.Common.{Bool, Option, refl, sym, subst}
use Rattle.osm_base.specs.declared.values.object.Object.{Object}
use Rattle.store_maps.specs.Maps.{set_object}
use Rattle.update_flow.specs.maps.Calls.{buckets_of, style_in}
use Rattle.update_flow.specs.maps.Held.{HasMaps}
use Rattle.update_flow.proofs.Findings.{told_err, told_ok}
use Rattle.update_flow.proofs.Keeping.{allowed_sound, over_ready, sets_done, sets_stopped}
use Rattle.update_flow.proofs.maps.kept.StoreTxnMapStore.set.Goals as goal

pub put_object-requires-clause-ready : goal.put_object-requires-clause-ready
put_object-requires-clause-ready g c = over_ready c.args.self.now c.requires.spent

pub take_object-requires : goal.take_object-requires
take_object-requires g c = record { ready = over_ready c.args.self.now c.requires.spent }

pub returns-in-Ok-clause-holds : goal.returns-in-Ok-clause-holds
returns-in-Ok-clause-holds g c under maps had =
    let definitions = (style_in c.args.self.now).tables in
    subst (λ (o : Option Object). HasMaps definitions under (set_object maps c.args.key.kind c.args.key.id o) c.put_object.new.buckets)
    (sym c.in-Some.is) (c.in-Ok.ensures.sets definitions under maps had)

pub returns-in-Ok-clause-within : goal.returns-in-Ok-clause-within
returns-in-Ok-clause-within g c = c.in-Ok.ensures.puts.within

pub returns-in-Ok-clause-sets : goal.returns-in-Ok-clause-sets
returns-in-Ok-clause-sets g c = sets_done c.args.self.now _ c.requires.spent refl tt refl c.in-Ok.ensures.puts.touched

pub returns-in-Err-clause-sets : goal.returns-in-Err-clause-sets
returns-in-Err-clause-sets g c = sets_stopped c.args.self.now _ c.requires.spent refl
    (Unit {0}) c.in-Err.fault refl c.in-Err.ensures.puts.touched

pub returns-in-Err-clause-allowed : goal.returns-in-Err-clause-allowed
returns-in-Err-clause-allowed g c under maps had =
    allowed_sound (Unit {0}) c.in-Err.fault (c.in-Err.ensures.puts.sound under.rest had.now had.has)

pub returns-in-Ok-take_object-clause-holds : goal.returns-in-Ok-take_object-clause-holds
returns-in-Ok-take_object-clause-holds g c under maps had =
    let definitions = (style_in c.args.self.now).tables in
    subst (λ (o : Option Object). HasMaps definitions under (set_object maps c.args.key.kind c.args.key.id o) c.take_object.new.buckets)
    (sym c.in-None.is) (c.in-Ok-take_object.ensures.sets definitions under maps had)

pub returns-in-Ok-take_object-clause-sets : goal.returns-in-Ok-take_object-clause-sets
returns-in-Ok-take_object-clause-sets g c = sets_done c.args.self.now _ c.requires.spent refl tt refl
    (told_ok (buckets_of c.args.self.now) c.take_object.new.buckets c.in-Ok-take_object.field-0 tt c.in-Ok-take_object.ensures.puts.touched)

pub returns-in-Err-take_object-clause-sets : goal.returns-in-Err-take_object-clause-sets
returns-in-Err-take_object-clause-sets g c = sets_stopped c.args.self.now _ c.requires.spent refl
    (Unit {0}) c.in-Err-take_object.fault refl
    (told_err (buckets_of c.args.self.now) c.take_object.new.buckets Bool (Unit {0}) c.in-Err-take_object.fault
    c.in-Err-take_object.ensures.puts.touched)

pub returns-in-Err-take_object-clause-allowed : goal.returns-in-Err-take_object-clause-allowed
returns-in-Err-take_object-clause-allowed g c under maps had =
    allowed_sound Bool c.in-Err-take_object.fault (c.in-Err-take_object.ensures.puts.sound under.rest had.now had.has)
