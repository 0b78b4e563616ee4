-- The listings of a map: who lists each node and each way.
-- osm2pgsql manual, "Updating an Existing Database": what lists a changed object is processed again. A way lists its nodes, and a
-- relation its members. Listings are those of some objects where they answer, of each node and each way, by just the objects that list
-- it (`AreListingsOf`); an object that comes, goes or changes turns what is told at its own key alone (`added`, `taken`).
use Rattle.std.specs.Prelude.{◌≡◌, ℕ, Bool, true, ◌&&◌, ◌||◌, not, List, [], Option, IsSome}
use Rattle.std.specs.Ordering.{eq_by_cmp}
use Rattle.std.specs.FinMap as finite
use Rattle.osm_base.specs.declared.values.key.Kind.{Kind}
use Rattle.osm_base.specs.declared.values.key.Kind.TheVariants.{Node, Way, Relation}
use Rattle.osm_base.specs.declared.values.object.Object.{Object}
use Rattle.osm_base.specs.values.Key.{KeyOf, IsId}
use Rattle.osm_base.specs.values.KeyOrder.{key_cmp}
use Rattle.object_fold.specs.declared.listed.Listed.{Listed}
use Rattle.object_fold.specs.declared.listings.Listings.{Listings}
use Rattle.osm_base.specs.map.Objects.{ObjectSet}
use Rattle.osm_base.specs.map.Listers.{listed, lists}
use Rattle.object_fold.specs.Listing.{is_listed}
use Rattle.osm_base.specs.values.Ids.{has}

-- what is told of who lists what: whether the object of this key lists the object of this kind and this id
abbrev pub WhoLists : Type 0
WhoLists = KeyOf → Kind → ℕ → Bool

-- what the objects of a map list
abbrev pub told_of : ObjectSet → WhoLists
told_of objects by kind id = lists kind id (finite.get objects by)

abbrev pub way : ℕ → KeyOf
way id = record { kind = Way; id = id }

abbrev pub relation : ℕ → KeyOf
relation id = record { kind = Relation; id = id }

-- the listings answer so; of other kinds they keep nothing
pub record Answer (listings : Listings) (told : WhoLists) : Type 0 where
  pub ways_of_nodes : (id by : ℕ) → is_listed listings.ways_of_nodes id by ≡ told (way by) Node id
  pub relations_of_nodes : (id by : ℕ) → is_listed listings.relations_of_nodes id by ≡ told (relation by) Node id
  pub relations_of_ways : (id by : ℕ) → is_listed listings.relations_of_ways id by ≡ told (relation by) Way id

-- the keys of the objects have ids
abbrev pub HasIds : ObjectSet → Type 0
HasIds objects = (key : KeyOf) → IsSome (finite.get objects key) → IsId key.id

-- the listings are those of these objects, and the keys of the objects have ids
pub record AreListingsOf (objects : ObjectSet) (listings : Listings) : Type 0 where
  pub told : Answer listings (told_of objects)
  pub ids : HasIds objects

-- What one object lists.

-- these are the nodes and the ways that the object lists
pub record AreListed (object : Object) (ids : Listed) : Type 0 where
  pub nodes : (id : ℕ) → has ids.nodes id ≡ has (listed Node object) id
  pub ways : (id : ℕ) → has ids.ways id ≡ has (listed Way object) id

-- these are the nodes and the ways that the object, if there is one, lists
pub record AreListedBy (object : Option Object) (ids : Listed) : Type 0 where
  pub nodes : (id : ℕ) → has ids.nodes id ≡ lists Node id object
  pub ways : (id : ℕ) → has ids.ways id ≡ lists Way id object

-- the ids of one kind among those that an object lists
abbrev pub ids_in : Kind → Listed → List ℕ
ids_in Node listed = listed.nodes
ids_in Way listed = listed.ways
ids_in Relation listed = []

-- How what is told turns, where an object comes, goes or changes.

abbrev pub is_key : KeyOf → KeyOf → Bool
is_key key other = eq_by_cmp key_cmp other key

-- these ids are listed by the object of this key too
abbrev pub added : KeyOf → Listed → WhoLists → WhoLists
added key ids told by kind id = (is_key key by && has (ids_in kind ids) id) || told by kind id

-- these ids, but for those, are no longer listed by the object of this key
abbrev pub taken : KeyOf → Listed → Listed → WhoLists → WhoLists
taken key ids but told by kind id = not (is_key key by && has (ids_in kind ids) id && not (has (ids_in kind but) id)) && told by kind id

-- listings that answer by what is told answer by what it has turned to after
abbrev pub Turns : (WhoLists → WhoLists) → Listings → Listings → Type 0
Turns turn old new = (told : WhoLists) → Answer old told → Answer new (turn told)

-- some of these ids are listed by the object of this key too
abbrev pub AddsSome : KeyOf → Listed → Listings → Listings → Type 0
AddsSome key ids old new = (some : Listed) × ((kind : Kind) (id : ℕ) → has (ids_in kind some) id ≡ true → has (ids_in kind ids) id ≡ true)
    × Turns (added key some) old new
