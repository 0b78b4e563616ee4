-- What the entries of a change say of their keys is known once they are made.
use Rattle.std.proofs.Common.{◌≡◌, ℕ, true, false, cond, List, [], ◌∷◌, Option, None, Some, refl, sym, ap, subst, ◌∙◌}
use Rattle.std.specs.Prelude.{IfSome}
use Rattle.std.specs.Cmp.{eq_by_cmp_equiv, nat_cmp_total, unsigned_tied}
use Rattle.std.specs.FinMap as finite
use Rattle.std.specs.Ordering.{eq_by_cmp, nat_cmp}
use Rattle.osm_base.specs.declared.values.key.Kind.{Kind}
use Rattle.osm_base.specs.declared.values.key.Kind.TheVariants as kinds
use Rattle.osm_base.specs.declared.values.object.Entry.{Entry}
use Rattle.osm_base.specs.declared.values.object.Object.{Object}
use Rattle.osm_base.specs.declared.values.object.Object.TheVariants.{Node, Way, Relation}
use Rattle.osm_base.specs.map.Objects as objects
use Rattle.osm_base.specs.values.Key.{KeyOf, node_key, relation_key, way_key}
use Rattle.osm_base.specs.values.KeyOrder.{key_cmp}
use Rattle.object_fold.specs.Change.{IsChange, IsOfKind, RiseFrom}
use Rattle.object_fold.proofs.FoldLaws.{Untouched}
use Rattle.store_maps.specs.Maps.{Maps, node_in, node_record, set, set_object, way_or_relation_in}
use Rattle.store_maps.specs.Named.{known_on, place_in}
use Rattle.store_maps.specs.Step.{change_on, entry_on, relisted_to}
use Rattle.store_maps.proofs.ObjectMaps.{same_key}
use Rattle.store_maps.proofs.Sets.{get-set}
use Rattle.update_step.specs.Named.{AreKnown, IsKnown, named_in}
use Rattle.update_step.proofs.AfterForms.{last-untouched}
use Rattle.update_step.proofs.Unknown.{stays-kept}

-- A way and a relation that entries do not name stay, as a node does.

module _ (id : ℕ) where
  way-other : (maps : Maps) (own : KeyOf) (object : Option Object) → eq_by_cmp key_cmp (way_key id) own ≡ false
      → finite.get (set_object maps own.kind own.id object).ways id ≡ finite.get maps.ways id
  way-other maps own object apart = by own.kind apart
    where
      by : (kind : Kind) → eq_by_cmp key_cmp (way_key id) (record { kind = kind; id = own.id }) ≡ false
          → finite.get (set_object maps kind own.id object).ways id ≡ finite.get maps.ways id
      by kinds.Node apart = refl
      by kinds.Way apart = get-set maps.ways own.id object id
          ∙ ap (λ b. cond b object (finite.get maps.ways id)) (sym (unsigned_tied id own.id) ∙ apart)
      by kinds.Relation apart = refl

  way-stays : (entries : List Entry) (maps : Maps) → Untouched (way_key id) entries
      → finite.get (change_on maps entries).ways id ≡ finite.get maps.ways id
  way-stays [] maps none = refl
  way-stays (entry ∷ entries) maps none =
      way-stays entries (entry_on maps entry) none.1
      ∙ way-other (relisted_to maps entry.key (way_or_relation_in maps entry.key.kind entry.key.id) entry.object) entry.key entry.object none.0

  relation-other : (maps : Maps) (own : KeyOf) (object : Option Object) → eq_by_cmp key_cmp (relation_key id) own ≡ false
      → finite.get (set_object maps own.kind own.id object).relations id ≡ finite.get maps.relations id
  relation-other maps own object apart = by own.kind apart
    where
      by : (kind : Kind) → eq_by_cmp key_cmp (relation_key id) (record { kind = kind; id = own.id }) ≡ false
          → finite.get (set_object maps kind own.id object).relations id ≡ finite.get maps.relations id
      by kinds.Node apart = refl
      by kinds.Way apart = refl
      by kinds.Relation apart = get-set maps.relations own.id object id
          ∙ ap (λ b. cond b object (finite.get maps.relations id)) (sym (unsigned_tied id own.id) ∙ apart)

  relation-stays : (entries : List Entry) (maps : Maps) → Untouched (relation_key id) entries
      → finite.get (change_on maps entries).relations id ≡ finite.get maps.relations id
  relation-stays [] maps none = refl
  relation-stays (entry ∷ entries) maps none =
      relation-stays entries (entry_on maps entry) none.1
      ∙ relation-other (relisted_to maps entry.key (way_or_relation_in maps entry.key.kind entry.key.id) entry.object) entry.key entry.object
      none.0

-- What was set is there.

set-there : {X : Type 0} (values : finite.FinMap nat_cmp X) (id : ℕ) (value : Option X) → finite.get (set values id value) id ≡ value
set-there values id value = get-set values id value id
    ∙ ap (λ b. cond b value (finite.get values id)) (sym (unsigned_tied id id) ∙ (eq_by_cmp_equiv nat_cmp_total).refl id)

node-again : (object : Option Object) → IfSome object (IsOfKind kinds.Node) → node_in (node_record object) ≡ object
node-again None proper = refl
node-again (Some (Node place tags)) proper = refl
node-again (Some (Way nodes tags)) proper = absurd proper
node-again (Some (Relation members tags)) proper = absurd proper

place-again : (object : Option Object) → place_in (node_record object) ≡ objects.place_in object
place-again None = refl
place-again (Some (Node place tags)) = refl
place-again (Some (Way nodes tags)) = refl
place-again (Some (Relation members tags)) = refl

-- the object of the first of these entries is known behind all of them
first-known : (maps : Maps) (kind : Kind) (id : ℕ) (object : Option Object) (entries : List Entry) → IfSome object (IsOfKind kind)
    → Untouched (record { kind = kind; id = id }) entries
    → IsKnown (known_on (change_on (entry_on maps (record { key = record { kind = kind; id = id }; object = object })) entries))
    (record { kind = kind; id = id }) object
first-known maps kinds.Node id object entries proper none =
    let first : Maps = entry_on maps (record { key = node_key id; object = object }) in
    let kept : finite.get (change_on first entries).nodes id ≡ node_record object =
    stays-kept id entries first none ∙ set-there maps.nodes id (node_record object) in
    record {
      form = ap node_in kept ∙ node-again object proper;
      placed = λ _. ap place_in kept ∙ place-again object;
    }
first-known maps kinds.Way id object entries proper none =
    let first : Maps = entry_on maps (record { key = way_key id; object = object }) in
    record {
      form = way-stays id entries first none ∙ set-there maps.ways id object;
      placed = λ is. absurd (cc);
    }
first-known maps kinds.Relation id object entries proper none =
    let first : Maps = entry_on maps (record { key = relation_key id; object = object }) in
    record {
      form = relation-stays id entries first none ∙ set-there maps.relations id object;
      placed = λ is. absurd (cc);
    }

known-from : (maps : Maps) (last : Option KeyOf) (entries : List Entry) → RiseFrom last entries
    → AreKnown (known_on (change_on maps entries)) entries
known-from maps last [] rise own = tt
known-from maps last (entry ∷ entries) rise own =
    let to = known_on (change_on (entry_on maps entry) entries) in
    elim (eq_by_cmp key_cmp own entry.key) as (λ b. eq_by_cmp key_cmp own entry.key ≡ b
    → IfSome (cond b (Some entry.object) (named_in entries own)) (IsKnown to own)) [
      | true ↦ λ same. subst (λ (key : KeyOf). IsKnown to key entry.object) (sym (same_key own entry.key same))
          (first-known maps entry.key.kind entry.key.id entry.object entries rise.0 (last-untouched entry.key entries rise.2))
      | false ↦ λ _. known-from (entry_on maps entry) (Some entry.key) entries rise.2 own
    ] refl

pub change-known : (maps : Maps) (change : List Entry) → IsChange change → AreKnown (known_on (change_on maps change)) change
change-known maps change rise = known-from maps None change rise
