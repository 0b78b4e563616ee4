-- A node is read by its record, and a way or a relation as its form.
use Rattle.std.proofs.Common.{◌≡◌, ◌∙◌, Option, Ok, Err, ap, refl, sym, subst}
use Rattle.osm_base.specs.declared.values.key.Kind.{Kind}
use Rattle.osm_base.specs.declared.values.key.Kind.TheVariants as kinds
use Rattle.osm_base.specs.declared.values.object.Object.{Object}
use Rattle.osm_base.specs.values.Key.{KeyOf}
use Rattle.back_index.proofs.Reading.{if_ok}
use Rattle.middle_objs.specs.Maps.{map_of}
use Rattle.value_bytes.specs.Objects.{object_bytes, IsStored}
use Rattle.value_bytes.specs.declared.nodes.NodeRecord.{NodeRecord}
use Rattle.store_maps.specs.Asked.{MayObject}
use Rattle.store_maps.specs.Maps.{node_in, object_in}
use Rattle.update_flow.specs.maps.Touched.{Finds}
use Rattle.update_flow.proofs.Findings.{asks_key, object_form, record_found, record_sound, told_err, told_ok, way_or_relation_finds}
use Rattle.update_flow.proofs.Findings.{touched_key}
use Rattle.update_flow.proofs.Within.{node_allowed, object_allowed, within_touched}
use Rattle.update_flow.proofs.maps.finding.find_object.Goals as goal

pub returns-in-Ok-clause-finds : goal.returns-in-Ok-clause-finds
returns-in-Ok-clause-finds g c definitions =
    let old = c.args.buckets.now in
    let id = c.key.inside.id in
    let is : c.key.inside.kind ≡ kinds.Node = cc (c.in-Node.is) in
    subst (λ (k : KeyOf). Finds definitions (λ maps. object_in maps k.kind k.id) old (Ok c.node_in.result)) c.key.view_is
    (subst (λ (k : Kind). Finds definitions (λ maps. object_in maps k id) old (Ok c.node_in.result)) (sym is) (record {
      found = λ under maps had.
          c.node_in.ensures
          ∙ ap (λ (o : Option NodeRecord). node_in o)
          (record_found old c.get.new.buckets id c.in-Ok.found c.in-Ok.ensures.value definitions under maps had);
      sound = λ under maps had. tt;
    }))

pub returns-in-Err-clause-finds : goal.returns-in-Err-clause-finds
returns-in-Err-clause-finds g c definitions =
    let old = c.args.buckets.now in
    let id = c.key.inside.id in
    let is : c.key.inside.kind ≡ kinds.Node = cc (c.in-Node.is) in
    subst (λ (k : KeyOf). Finds {A = Option Object} definitions (λ maps. object_in maps k.kind k.id) old (Err c.in-Err.fault)) c.key.view_is
    (subst (λ (k : Kind). Finds {A = Option Object} definitions (λ maps. object_in maps k id) old (Err c.in-Err.fault)) (sym is) (record {
      found = tt;
      sound = record_sound old c.get.new.buckets (Option Object) id c.in-Err.fault c.in-Err.ensures.value definitions;
    }))

pub returns-in-Ok-clause-asks : goal.returns-in-Ok-clause-asks
returns-in-Ok-clause-asks g c =
    let old = c.args.buckets.now in
    let new = c.get.new.buckets in
    let inside : KeyOf = record { kind = c.key.inside.kind; id = c.key.inside.id } in
    record {
      has = c.in-Ok.ensures.value.keeps.has refl;
      within = λ may allowed only. within_touched may old new c.requires.ready.going 0 inside.id _
          (node_allowed may inside c.args.key c.key.view_is (cc (c.in-Node.is)) allowed) c.in-Ok.ensures.touches only;
      touched = told_ok old new c.in-Ok.found c.node_in.result (touched_key old new 0 inside.id _ c.in-Ok.ensures.touches);
    }

pub returns-in-Err-clause-asks : goal.returns-in-Err-clause-asks
returns-in-Err-clause-asks g c =
    let old = c.args.buckets.now in
    let new = c.get.new.buckets in
    let inside : KeyOf = record { kind = c.key.inside.kind; id = c.key.inside.id } in
    record {
      has = tt;
      within = λ may allowed only. within_touched may old new c.requires.ready.going 0 inside.id _
          (node_allowed may inside c.args.key c.key.view_is (cc (c.in-Node.is)) allowed) c.in-Err.ensures.touches only;
      touched = told_err old new (Option NodeRecord) (Option Object) c.in-Err.fault
          (touched_key old new 0 inside.id _ c.in-Err.ensures.touches);
    }

pub get-requires-in_default-clause-kind : goal.get-requires-in_default-clause-kind
get-requires-in_default-clause-kind g c = subst (λ (k : KeyOf). k.kind ≡ kinds.Node → ⊥) c.key.view_is c.in_default.not-Node

pub returns-in_default-clause-finds : goal.returns-in_default-clause-finds
returns-in_default-clause-finds g c definitions =
    let apart = subst (λ (k : KeyOf). k.kind ≡ kinds.Node → ⊥) c.key.view_is c.in_default.not-Node in
    let form = way_or_relation_finds c.args.buckets.now c.get-in_default.new.buckets definitions
    c.args.key.kind c.args.key.id c.get-in_default.result
    apart c.get-in_default.ensures.value in
    record {
      found = if_ok (Option Object) _ _ c.get-in_default.result
          (λ found is under maps had. is under maps had ∙ object_form maps c.args.key.kind c.args.key.id apart) form.found;
      sound = form.sound;
    }

pub returns-in_default-clause-asks : goal.returns-in_default-clause-asks
returns-in_default-clause-asks g c =
    asks_key c.args.buckets.now c.get-in_default.new.buckets object_bytes (IsStored c.args.key.kind)
    (map_of c.args.key.kind) c.args.key.id c.get-in_default.result
    c.get-in_default.ensures.value c.get-in_default.ensures.touches (λ may. MayObject may c.args.key)
    (λ may allowed only. within_touched may c.args.buckets.now c.get-in_default.new.buckets c.requires.ready.going
    (map_of c.args.key.kind) c.args.key.id c.get-in_default.result
    (object_allowed may c.args.key.kind c.args.key.id
    (subst (λ (k : KeyOf). k.kind ≡ kinds.Node → ⊥) c.key.view_is c.in_default.not-Node) allowed) c.get-in_default.ensures.touches only)
