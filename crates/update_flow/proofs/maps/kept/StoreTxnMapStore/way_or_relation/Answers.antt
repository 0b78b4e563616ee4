-- What the call on the buckets answers is what the maps answer.
use Rattle.std.proofs.Common.{◌≡◌, None, Ok, Err, Option, refl, subst}
use Rattle.osm_base.specs.declared.values.key.Kind.TheVariants as kinds
use Rattle.osm_base.specs.declared.values.object.Object.{Object}
use Rattle.osm_base.specs.values.Key.{KeyOf}
use Rattle.middle_objs.specs.Maps.{map_of}
use Rattle.store_maps.specs.Maps.{way_or_relation_in}
use Rattle.update_flow.specs.maps.Calls.{buckets_of, style_in}
use Rattle.update_flow.specs.maps.Laws.{over_going}
use Rattle.update_flow.proofs.Findings.{node_none, touched_key, touched_none, way_or_relation_finds}
use Rattle.update_flow.proofs.Keeping.{allowed_sound, looks_done, looks_stopped, over_ready}
use Rattle.update_flow.proofs.Within.{object_allowed, within_touched}
use Rattle.update_flow.proofs.maps.kept.StoreTxnMapStore.way_or_relation.Goals as goal

pub returns-in-Node-clause-found : goal.returns-in-Node-clause-found
returns-in-Node-clause-found g c under maps had =
    subst (λ (k : KeyOf). None ≡ way_or_relation_in maps k.kind k.id) c.key.view_is
    (node_none maps c.key.inside.kind c.key.inside.id (cc (c.in-Node.is)))

pub returns-in-Node-clause-looks : goal.returns-in-Node-clause-looks
returns-in-Node-clause-looks g c =
    looks_done c.args.self.now c.args.self.now c.requires refl None refl
    (touched_none (buckets_of c.args.self.now) None (over_going c.args.self.now c.requires)) (λ rest now has. has)

pub get-requires-clause-kind : goal.get-requires-clause-kind
get-requires-clause-kind g c = subst (λ (k : KeyOf). k.kind ≡ kinds.Node → ⊥) c.key.view_is c.in_default.not-Node

pub get-requires-clause-ready : goal.get-requires-clause-ready
get-requires-clause-ready g c = over_ready c.args.self.now c.requires

pub returns-in-Ok-clause-found : goal.returns-in-Ok-clause-found
returns-in-Ok-clause-found g c =
    let apart = subst (λ (k : KeyOf). k.kind ≡ kinds.Node → ⊥) c.key.view_is c.in_default.not-Node in
    (way_or_relation_finds (buckets_of c.args.self.now) c.get.new.buckets (style_in c.args.self.now).tables c.args.key.kind c.args.key.id
    (Ok c.in-Ok.found) apart c.in-Ok.ensures.value).found

pub returns-in-Ok-clause-within : goal.returns-in-Ok-clause-within
returns-in-Ok-clause-within g c may allowed only =
    let apart = subst (λ (k : KeyOf). k.kind ≡ kinds.Node → ⊥) c.key.view_is c.in_default.not-Node in
    within_touched may (buckets_of c.args.self.now) c.get.new.buckets (over_going c.args.self.now c.requires) (map_of c.args.key.kind)
    c.args.key.id _ (object_allowed may c.args.key.kind c.args.key.id apart allowed) c.in-Ok.ensures.touches only

pub returns-in-Ok-clause-looks : goal.returns-in-Ok-clause-looks
returns-in-Ok-clause-looks g c =
    looks_done c.args.self.now _ c.requires refl c.in-Ok.found refl
    (touched_key (buckets_of c.args.self.now) c.get.new.buckets (map_of c.args.key.kind) c.args.key.id _ c.in-Ok.ensures.touches)
    (c.in-Ok.ensures.value.keeps.has refl)

pub returns-in-Err-clause-within : goal.returns-in-Err-clause-within
returns-in-Err-clause-within g c may allowed only =
    let apart = subst (λ (k : KeyOf). k.kind ≡ kinds.Node → ⊥) c.key.view_is c.in_default.not-Node in
    within_touched may (buckets_of c.args.self.now) c.get.new.buckets (over_going c.args.self.now c.requires) (map_of c.args.key.kind)
    c.args.key.id _ (object_allowed may c.args.key.kind c.args.key.id apart allowed) c.in-Err.ensures.touches only

pub returns-in-Err-clause-looks : goal.returns-in-Err-clause-looks
returns-in-Err-clause-looks g c =
    let apart = subst (λ (k : KeyOf). k.kind ≡ kinds.Node → ⊥) c.key.view_is c.in_default.not-Node in
    looks_stopped c.args.self.now _ c.requires refl (Option Object) c.in-Err.fault refl
    (touched_key (buckets_of c.args.self.now) c.get.new.buckets (map_of c.args.key.kind) c.args.key.id _ c.in-Err.ensures.touches)
    (λ under maps had. allowed_sound (Option Object) c.in-Err.fault
    ((way_or_relation_finds (buckets_of c.args.self.now) c.get.new.buckets (style_in c.args.self.now).tables c.args.key.kind c.args.key.id
    (Err c.in-Err.fault) apart c.in-Err.ensures.value).sound under maps had))
