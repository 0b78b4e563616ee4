-- What may be known of the objects of a map, as functions of an id or a key.
use Rattle.std.specs.Prelude.{ℕ, List, Option}
use Rattle.osm_base.specs.declared.values.object.Object.{Object}
use Rattle.osm_base.specs.values.Key.{KeyOf}
use Rattle.osm_base.specs.values.Place.{PlaceOf}

-- the place of each node that has one, the object of each key, and the rising ids of the relations that a way or a node is a member of
pub record Known : Type 0 where
  pub place : ℕ → Option PlaceOf
  pub object : KeyOf → Option Object
  pub relations_of_way : ℕ → List ℕ
  pub relations_of_node : ℕ → List ℕ

-- Who lists an object. osm2pgsql manual, "Updating an Existing Database": what lists a changed node, or has a changed way as a member,
-- is processed again.
-- the rising ids of the ways that list a node, of the relations that it is a member of, and of those that a way is a member of;
-- none where nothing lists it
pub record Index : Type 0 where
  pub ways_of_node : ℕ → List ℕ
  pub relations_of_node : ℕ → List ℕ
  pub relations_of_way : ℕ → List ℕ

-- a question to an index, and the id that it is about
pub data Question : Type 0 where
  WaysOfNode : (id : ℕ) → Question
  RelationsOfNode : (id : ℕ) → Question
  RelationsOfWay : (id : ℕ) → Question
