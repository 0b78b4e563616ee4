-- What the call on the buckets answers is what the maps answer.
use Rattle.std.proofs.Common.{Option, refl}
use Rattle.osm_base.specs.declared.values.object.Object.{Object}
use Rattle.update_flow.specs.maps.Calls.{style_in}
use Rattle.update_flow.proofs.Keeping.{allowed_sound, looks_done, looks_stopped, over_ready}
use Rattle.update_flow.proofs.maps.kept.StoreTxnMapStore.object.Goals as goal

pub find_object-requires : goal.find_object-requires
find_object-requires g c = record { ready = over_ready c.args.self.now c.requires }

pub returns-in-Ok-clause-object : goal.returns-in-Ok-clause-object
returns-in-Ok-clause-object g c = (c.in-Ok.ensures.finds (style_in c.args.self.now).tables).found

pub returns-in-Ok-clause-looks : goal.returns-in-Ok-clause-looks
returns-in-Ok-clause-looks g c =
    looks_done c.args.self.now _ c.requires refl c.in-Ok.found refl c.in-Ok.ensures.asks.touched c.in-Ok.ensures.asks.has

pub returns-in-Err-clause-looks : goal.returns-in-Err-clause-looks
returns-in-Err-clause-looks g c =
    looks_stopped c.args.self.now _ c.requires refl (Option Object) c.in-Err.fault refl c.in-Err.ensures.asks.touched
    (λ under maps had. allowed_sound (Option Object) c.in-Err.fault
    ((c.in-Err.ensures.finds (style_in c.args.self.now).tables).sound under maps had))
