-- What is kept in memory of the objects of a store while its rows and lists are judged: of nodes the places alone.
use Rattle.std.specs.Prelude.{◌≡◌, ℕ, Option, None, refl}
use Rattle.std.specs.Coded.{Coded, code_by, coded×, coded_ℕ}
use Rattle.std.specs.FinMap as finite
use Rattle.std.specs.Option.{option_map}
use Rattle.std.specs.Ordering.{nat_cmp}
use Rattle.osm_base.specs.contracts.values.key.Key as key_type
use Rattle.osm_base.specs.contracts.values.object.Object as object_type
use Rattle.osm_base.specs.contracts.values.place.Place as place_type
use Rattle.osm_base.specs.declared.values.key.Kind.TheVariants as kinds
use Rattle.osm_base.specs.declared.values.object.Object.{Object}
use Rattle.osm_base.specs.map.Known.{Known}
use Rattle.osm_base.specs.map.Listers.{index_of}
use Rattle.osm_base.specs.map.Objects.{ObjectSet, place_in}
use Rattle.osm_base.specs.values.Key.{relation_key}
use Rattle.osm_base.specs.values.Place.{PlaceOf}
use Rattle.store_check.specs.Values.{NodeMap, ObjectMap, bare}

-- the place of each node that has one, the ways and the relations by their ids, and the relations once more, with the index of who
-- lists what
pub record HeldOf : Type 0 where
  pub places : finite.FinMap nat_cmp PlaceOf
  pub ways : ObjectMap
  pub relations : ObjectMap
  pub members : ObjectSet

-- these are stored as two pairs
abbrev pub held_coded : Coded HeldOf
held_coded =
    code_by ((finite.FinMap nat_cmp PlaceOf × ObjectMap) × (ObjectMap × ObjectSet))
    (coded× (coded× (finite.code coded_ℕ place_type.the_row.coded) (finite.code coded_ℕ object_type.the_row.coded))
    (coded× (finite.code coded_ℕ object_type.the_row.coded) (finite.code key_type.the_row.coded object_type.the_row.coded)))
    (λ own. ((own.places, own.ways), (own.relations, own.members)))
    (λ pairs. record { places = pairs.0.0; ways = pairs.0.1; relations = pairs.1.0; members = pairs.1.1 }) (λ _. refl)

-- nothing
abbrev pub nothing_held : HeldOf
nothing_held = record { places = finite.empty; ways = finite.empty; relations = finite.empty; members = finite.empty }

-- a place, a way and a relation more
abbrev pub with_place : HeldOf → ℕ → PlaceOf → HeldOf
with_place own id place =
    record { places = finite.insert own.places id place; ways = own.ways; relations = own.relations; members = own.members }

abbrev pub with_way : HeldOf → ℕ → Object → HeldOf
with_way own id way =
    record { places = own.places; ways = finite.insert own.ways id way; relations = own.relations; members = own.members }

abbrev pub with_relation : HeldOf → ℕ → Object → HeldOf
with_relation own id relation = record {
  places = own.places;
  ways = own.ways;
  relations = finite.insert own.relations id relation;
  members = finite.insert own.members (relation_key id) relation;
}

-- what is known by these: of a node no more than its place
abbrev pub held_known : HeldOf → Known
held_known own = record {
  place = λ id. finite.get own.places id;
  object = λ key. elim key.kind as (λ _. Option Object) [
    | kinds.Node ↦ None
    | kinds.Way ↦ finite.get own.ways key.id
    | kinds.Relation ↦ finite.get own.members key
  ];
  relations_of_way = (index_of own.members).relations_of_way;
  relations_of_node = (index_of own.members).relations_of_node;
}

-- these are the places, the ways and the relations of a store that keeps these nodes, ways and relations
pub record IsHeldOf (nodes : NodeMap) (ways relations : ObjectMap) (own : HeldOf) : Type 0 where
  pub places_are : (id : ℕ) → finite.get own.places id ≡ place_in (option_map bare (finite.get nodes id))
  pub ways_are : own.ways ≡ ways
  pub relations_are : own.relations ≡ relations
  pub members_are : (id : ℕ) → finite.get own.members (relation_key id) ≡ finite.get relations id
