-- A node is set by its record, and a way or a relation as it is.
use Rattle.std.proofs.Common.{◌≡◌, Some, subst, sym}
use Rattle.osm_base.specs.declared.values.key.Kind.TheVariants as kinds
use Rattle.osm_base.specs.declared.values.object.Object.{Object}
use Rattle.osm_base.specs.values.Key.{KeyOf}
use Rattle.osm_base.specs.values.Tags.{TagMap}
use Rattle.object_fold.specs.Change.{IsOfKind}
use Rattle.middle_objs.specs.Maps.{map_of}
use Rattle.back_index.proofs.ReadKeys.{reads_refused}
use Rattle.store_maps.specs.Maps.{set}
use Rattle.update_flow.specs.maps.Held.{HasMaps}
use Rattle.update_flow.proofs.Findings.{touched_key, touched_refused}
use Rattle.update_flow.proofs.Settings.{both_ok, form_kept, node_kind, node_object, node_set, object_set}
use Rattle.update_flow.proofs.Within.{no_node, node_allowed, object_allowed, within_touched}
use Rattle.update_flow.proofs.maps.setting.put_object.Goals as goal

pub returns-in-Ok-clause-sets : goal.returns-in-Ok-clause-sets
returns-in-Ok-clause-sets g c =
    let old = c.args.buckets.now in
    let new = c.put-in-Ok.new.buckets in
    let inside : KeyOf = record { kind = c.key.inside.kind; id = c.key.inside.id } in
    both_ok _ _ _ c.put-in-Ok.result
    (λ has is definitions under maps had. node_object old new definitions under maps c.args.key inside c.args.object.now c.in-Node.place
    c.in-Node.tags c.key.view_is c.in-Node.is c.requires.proper
    (subst (λ (tags : TagMap). HasMaps definitions under
    (record maps { nodes = set maps.nodes inside.id (Some (record { place = c.in-Node.place; tags = Some tags })) }) new)
    c.in-Ok.ensures.equal
    (node_set old new definitions under maps inside.id (Some (record { place = c.in-Node.place; tags = Some c.in-Ok.tags })) is has had)))
    c.put-in-Ok.ensures.value.has c.put-in-Ok.ensures.is

pub returns-in-Ok-clause-puts : goal.returns-in-Ok-clause-puts
returns-in-Ok-clause-puts g c =
    let key : KeyOf = c.args.key in
    let inside : KeyOf = record { kind = c.key.inside.kind; id = c.key.inside.id } in
    let is : key.kind ≡ kinds.Node = node_kind key.kind c.in-Node.place c.in-Node.tags
    (subst (λ (o : Object). IsOfKind key.kind o) c.in-Node.is c.requires.proper) in
    record {
      sound = c.put-in-Ok.ensures.value.sound;
      within = λ may allowed only. within_touched may c.args.buckets.now c.put-in-Ok.new.buckets c.requires.ready.going 0 inside.id
          c.put-in-Ok.result
          (node_allowed may inside key c.key.view_is (subst (λ (k : KeyOf). k.kind ≡ kinds.Node) (sym c.key.view_is) is) allowed)
          c.put-in-Ok.ensures.touches only;
      touched = touched_key c.args.buckets.now c.put-in-Ok.new.buckets 0 inside.id c.put-in-Ok.result c.put-in-Ok.ensures.touches;
    }

pub returns-in-Err-clause-puts : goal.returns-in-Err-clause-puts
returns-in-Err-clause-puts g c = record {
  sound = λ rest now has. tt;
  within = λ may allowed only. reads_refused may c.refuse.new.self c.refuse.ensures.refused;
  touched = touched_refused c.args.buckets.now c.refuse.new.self (Unit {0}) c.refuse.ensures.chains c.refuse.ensures.refused;
}

pub put-requires-clause-kept : goal.put-requires-clause-kept
put-requires-clause-kept g c = form_kept c.args.key.kind c.args.object.now c.in_default.not-Node c.requires.proper

pub returns-in_default-clause-sets : goal.returns-in_default-clause-sets
returns-in_default-clause-sets g c =
    both_ok _ _ _ c.put.result
    (λ has is definitions under maps had. object_set c.args.buckets.now c.put.new.buckets definitions under maps c.args.key.id
    c.args.object.now c.args.key.kind is has had)
    c.put.ensures.value.has c.put.ensures.is

pub returns-in_default-clause-puts : goal.returns-in_default-clause-puts
returns-in_default-clause-puts g c = record {
  sound = c.put.ensures.value.sound;
  within = λ may allowed only. within_touched may c.args.buckets.now c.put.new.buckets c.requires.ready.going
      (map_of c.args.key.kind) c.args.key.id c.put.result
      (object_allowed may c.args.key.kind c.args.key.id
      (no_node c.args.key.kind c.args.object.now c.in_default.not-Node c.requires.proper) allowed) c.put.ensures.touches only;
  touched = touched_key c.args.buckets.now c.put.new.buckets (map_of c.args.key.kind) c.args.key.id c.put.result c.put.ensures.touches;
}
