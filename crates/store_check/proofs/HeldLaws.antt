-- What is held, with one object more.
use Rattle.std.proofs.Common.{◌≡◌, ℕ, Option, Some, ap, sym, ◌∙◌}
use Rattle.std.specs.BTreeMap.{BTreeMap, Updates, get_by}
use Rattle.std.specs.FinMap as finite
use Rattle.std.specs.Ordering.{nat_cmp}
use Rattle.osm_base.specs.declared.values.key.Kind.{Kind}
use Rattle.osm_base.specs.declared.values.key.Kind.TheVariants as kinds
use Rattle.osm_base.specs.declared.values.object.Object.{Object}
use Rattle.osm_base.specs.map.Objects.{ObjectSet}
use Rattle.osm_base.specs.values.Key.{KeyOf, relation_key}
use Rattle.osm_base.specs.values.Place.{PlaceOf}
use Rattle.store_check.specs.Held.{HeldOf, held_known, with_place, with_relation, with_way}
use Rattle.store_check.specs.Places.{PlaceMap}
use Rattle.store_check.specs.Values.{ObjectMap}
use Rattle.store_check.proofs.Trees.{got_id, put_id}

-- these places and trees as what is held
abbrev pub held_in : PlaceMap → (ways relations : BTreeMap ℕ Object) → ObjectSet → HeldOf
held_in places ways relations members = record {
  places = places;
  ways = finite.from_entries ways.entries;
  relations = finite.from_entries relations.entries;
  members = members;
}

module _ (places : PlaceMap) (ways relations : BTreeMap ℕ Object) (members : ObjectSet) (own : HeldOf)
    (are : held_in places ways relations members ≡ own) (id : ℕ) where
  pub place_put : (new : PlaceMap) (place : PlaceOf) → new ≡ finite.insert places id place
      → held_in new ways relations members ≡ with_place own id place
  place_put new place is =
      ap (λ (put : PlaceMap). record (held_in places ways relations members) { places = put }) is
      ∙ ap (λ (held : HeldOf). with_place held id place) are

  pub place_same : (new : PlaceMap) → new ≡ places → held_in new ways relations members ≡ own
  place_same new is = ap (λ (put : PlaceMap). record (held_in places ways relations members) { places = put }) is ∙ are

  pub way_put : (new : BTreeMap ℕ Object) (way : Object) → Updates nat_cmp ways new id (Some way)
      → held_in places new relations members ≡ with_way own id way
  way_put new way updates =
      ap (λ (put : ObjectMap). record (held_in places ways relations members) { ways = put }) (put_id ways new id way updates)
      ∙ ap (λ (held : HeldOf). with_way held id way) are

  pub relation_put : (new : BTreeMap ℕ Object) (listed : ObjectSet) (relation : Object) → Updates nat_cmp relations new id (Some relation)
      → listed ≡ finite.insert members (relation_key id) relation
      → held_in places ways new listed ≡ with_relation own id relation
  relation_put new listed relation updates is =
      (λ i. record (held_in places ways relations members) { relations = put_id relations new id relation updates i; members = is i })
      ∙ ap (λ (held : HeldOf). with_relation held id relation) are

-- the way of a key
pub way_found : (places : PlaceMap) (ways relations : BTreeMap ℕ Object) (members : ObjectSet) (own : HeldOf)
    → held_in places ways relations members ≡ own → (key : KeyOf) {id : ℕ} {found : Option Object} → found ≡ get_by (nat_cmp id) ways
    → id ≡ key.id → key.kind ≡ kinds.Way → found ≡ (held_known own).object key
way_found places ways relations members own are key {id} {found} is at way =
    is ∙ got_id ways id ∙ ap (λ (k : ℕ). finite.get (finite.from_entries {R = nat_cmp} ways.entries) k) at
    ∙ ap (λ (held : HeldOf). finite.get held.ways key.id) are
    ∙ ap (λ (kind : Kind). (held_known own).object (record { kind = kind; id = key.id })) (sym way)
