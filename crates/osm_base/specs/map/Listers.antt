-- Who lists the objects of a map.
-- osm2pgsql manual, "Updating an Existing Database": a way is processed again when a node of it changes, and a relation when a node or
-- a way that is a member of it changes.
use Rattle.std.specs.Prelude.{ℕ, Bool, true, false, ◌&&◌, List, [], map, Option, None, Some}
use Rattle.std.specs.List.{filter}
use Rattle.std.specs.FinMap as finite
use Rattle.osm_base.specs.declared.values.key.Kind.{Kind}
use Rattle.osm_base.specs.declared.values.key.Kind.TheVariants as kinds
use Rattle.osm_base.specs.declared.values.object.Member.{Member}
use Rattle.osm_base.specs.declared.values.object.Object.{Object}
use Rattle.osm_base.specs.declared.values.object.Object.TheVariants.{Way, Relation}
use Rattle.osm_base.specs.map.Known.{Index, Known}
use Rattle.osm_base.specs.map.Objects.{ObjectSet, place_in}
use Rattle.osm_base.specs.values.Ids.{has}

-- whether two kinds are the same
abbrev pub is_kind : Kind → Kind → Bool
is_kind kinds.Node kinds.Node = true
is_kind kinds.Way kinds.Way = true
is_kind kinds.Relation kinds.Relation = true
is_kind _ _ = false

-- the ids of the members of one kind
abbrev pub member_ids : Kind → List Member → List ℕ
member_ids kind members = map (λ member. member.key.id) (filter (λ member. is_kind kind member.key.kind) members)

-- the ids of the objects of one kind that an object lists: a way its nodes, a relation its members
abbrev pub listed : Kind → Object → List ℕ
listed kinds.Node (Way nodes tags) = nodes
listed kind (Relation members tags) = member_ids kind members
listed _ _ = []

-- the object, if there is one, lists the object of this kind with this id
abbrev pub lists : Kind → ℕ → Option Object → Bool
lists kind id None = false
lists kind id (Some object) = has (listed kind object) id

-- the ids of the objects of one kind that list this one, rising as the keys of the map do
abbrev pub ids_of : Kind → Kind → ℕ → ObjectSet → List ℕ
ids_of by kind id objects = map (λ key. key.id)
    (filter (λ key. is_kind by key.kind && lists kind id (finite.get objects key)) (finite.keys objects))

-- the ways that list a node, the relations that have it as a member, and those that have a way as a member
abbrev pub index_of : ObjectSet → Index
index_of objects = record {
  ways_of_node = λ id. ids_of kinds.Way kinds.Node id objects;
  relations_of_node = λ id. ids_of kinds.Relation kinds.Node id objects;
  relations_of_way = λ id. ids_of kinds.Relation kinds.Way id objects;
}

-- what may be known of the objects of a map
abbrev pub known_of : ObjectSet → Known
known_of objects = record {
  place = λ id. place_in (finite.get objects (record { kind = kinds.Node; id = id }));
  object = finite.get objects;
  relations_of_way = (index_of objects).relations_of_way;
  relations_of_node = (index_of objects).relations_of_node;
}
