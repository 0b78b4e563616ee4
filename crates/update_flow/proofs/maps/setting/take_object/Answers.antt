-- A node is taken by its id, and a way or a relation by its key.
use Rattle.std.proofs.Common.{◌≡◌, None, subst}
use Rattle.osm_base.specs.declared.values.key.Kind.TheVariants as kinds
use Rattle.osm_base.specs.values.Key.{KeyOf}
use Rattle.middle_objs.specs.Maps.{map_of}
use Rattle.update_flow.proofs.Findings.{touched_key}
use Rattle.update_flow.proofs.Settings.{node_set, node_taken, object_taken, taken_ok}
use Rattle.update_flow.proofs.Within.{node_allowed, object_allowed, within_touched}
use Rattle.update_flow.proofs.maps.setting.take_object.Goals as goal

pub returns-in-Node-clause-sets : goal.returns-in-Node-clause-sets
returns-in-Node-clause-sets g c =
    let old = c.args.buckets.now in
    let new = c.remove.new.buckets in
    let inside : KeyOf = record { kind = c.key.inside.kind; id = c.key.inside.id } in
    let is : inside.kind ≡ kinds.Node = cc (c.in-Node.is) in
    taken_ok _ c.remove.result _
    (λ was has definitions under maps had. node_taken old new definitions under maps c.args.key inside c.key.view_is is
    (node_set old new definitions under maps inside.id None tt (λ rest now owns. (has rest now owns).1) had))
    c.remove.ensures.value.has

pub returns-in-Node-clause-puts : goal.returns-in-Node-clause-puts
returns-in-Node-clause-puts g c =
    let inside : KeyOf = record { kind = c.key.inside.kind; id = c.key.inside.id } in
    record {
      sound = c.remove.ensures.value.sound;
      within = λ may allowed only. within_touched may c.args.buckets.now c.remove.new.buckets c.requires.ready.going 0 inside.id
          c.remove.result
          (node_allowed may inside c.args.key c.key.view_is (cc (c.in-Node.is)) allowed) c.remove.ensures.touches only;
      touched = touched_key c.args.buckets.now c.remove.new.buckets 0 inside.id c.remove.result c.remove.ensures.touches;
    }

pub remove-requires-in_default-clause-kind : goal.remove-requires-in_default-clause-kind
remove-requires-in_default-clause-kind g c = subst (λ (k : KeyOf). k.kind ≡ kinds.Node → ⊥) c.key.view_is c.in_default.not-Node

pub returns-in_default-clause-sets : goal.returns-in_default-clause-sets
returns-in_default-clause-sets g c =
    let old = c.args.buckets.now in
    let new = c.remove-in_default.new.buckets in
    let apart = subst (λ (k : KeyOf). k.kind ≡ kinds.Node → ⊥) c.key.view_is c.in_default.not-Node in
    taken_ok _ c.remove-in_default.result _
    (λ was has definitions under maps had. object_taken old new definitions under maps c.args.key.id c.args.key.kind apart
    (λ rest now owns. (has rest now owns).1) had)
    c.remove-in_default.ensures.value.has

pub returns-in_default-clause-puts : goal.returns-in_default-clause-puts
returns-in_default-clause-puts g c =
    let apart = subst (λ (k : KeyOf). k.kind ≡ kinds.Node → ⊥) c.key.view_is c.in_default.not-Node in
    record {
      sound = c.remove-in_default.ensures.value.sound;
      within = λ may allowed only. within_touched may c.args.buckets.now c.remove-in_default.new.buckets c.requires.ready.going
          (map_of c.args.key.kind) c.args.key.id c.remove-in_default.result
          (object_allowed may c.args.key.kind c.args.key.id apart allowed) c.remove-in_default.ensures.touches only;
      touched = touched_key c.args.buckets.now c.remove-in_default.new.buckets
          (map_of c.args.key.kind) c.args.key.id c.remove-in_default.result
          c.remove-in_default.ensures.touches;
    }
