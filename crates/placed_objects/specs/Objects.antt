-- Objects, of which some nodes are known by their places alone.
use Rattle.std.specs.Prelude.{ℕ, List, [], ◌∷◌, None, Some, if◌then◌else◌}
use Rattle.std.specs.FinMap as map
use Rattle.osm_base.specs.declared.values.key.Kind.TheVariants as kinds
use Rattle.osm_base.specs.declared.values.object.Object.{Object}
use Rattle.osm_base.specs.declared.values.object.Object.TheVariants.{Node}
use Rattle.osm_base.specs.values.Key.{node_key}
use Rattle.osm_base.specs.values.Place.{PlaceOf}
use Rattle.osm_base.specs.map.Known.{Known}
use Rattle.osm_base.specs.map.Listers.{is_kind, known_of}
use Rattle.osm_base.specs.map.Objects.{ObjectSet}
use Rattle.placed_objects.specs.NodePlaces.{PlaceMap}

-- a node at this place, without a tag
abbrev pub plain : PlaceOf → Object
plain place = Node (Some place) map.empty

-- these objects, and a node without a tag at each of these places
abbrev pub with_nodes : List (ℕ × PlaceOf) → ObjectSet → ObjectSet
with_nodes [] objects = objects
with_nodes (node ∷ nodes) objects = map.insert (with_nodes nodes objects) (node_key node.0) (plain node.1)

unfoldable pub joined_objects : PlaceMap → ObjectSet → ObjectSet
joined_objects places objects = with_nodes (map.entries places) objects

-- what is looked up of them where nobody asks who lists them: the place of each node, and each way and relation
abbrev pub looked_up_alone : ObjectSet → Known
looked_up_alone objects = record {
  place = (known_of objects).place;
  object = λ key. if is_kind key.kind kinds.Node then None else map.get objects key;
  relations_of_way = λ _. [];
  relations_of_node = λ _. [];
}

-- what is looked up of them: the place of each node, but no node itself
abbrev pub looked_up : ObjectSet → Known
looked_up objects = record {
  place = (known_of objects).place;
  object = λ key. if is_kind key.kind kinds.Node then None else map.get objects key;
  relations_of_way = (known_of objects).relations_of_way;
  relations_of_node = (known_of objects).relations_of_node;
}
