-- The text of points: a row for each node with a place and with a tag of the key, by rising id.
-- A row is the id, the value of the key and the place as `POINT(x y)`, longitude first, separated by tabs and ended by
-- a newline. The value has the escapes of PostgreSQL's COPY text format.
use Rattle.std.specs.Prelude.{ℕ, Option, Some, List, [], pos, flat_map}
use Rattle.std.specs.Option.{option_map_or}
use Rattle.std.specs.FinMap as map
use Rattle.osm_base.specs.values.Place.{PlaceOf}
use Rattle.osm_base.specs.declared.values.key.Kind.{Kind}
use Rattle.osm_base.specs.declared.values.key.Kind.TheVariants as kinds
use Rattle.osm_base.specs.declared.values.object.Object.{Object}
use Rattle.osm_base.specs.declared.values.object.Object.TheVariants.{Node}
use Rattle.osm_base.specs.declared.values.object.Entry.{Entry}
use Rattle.std.specs.Str.{chars}
use Rattle.osm_base.specs.map.Objects.{ObjectSet, folded_all}
use Rattle.osm_base.specs.declared.values.row.Geometry.TheVariants.{Point}
use Rattle.row_text.specs.Row.{row_line, text_row}

-- the row of a node with this id, this value of the key and this place
abbrev pub point_row : (id : ℕ) → (value : List ℕ) → PlaceOf → List ℕ
point_row id value place = row_line (pos id) (text_row value (Point place))

-- the row of an object with this id, where it is a node with a place and the tag
abbrev pub node_row : (key : List ℕ) → (id : ℕ) → Option Object → List ℕ
node_row key id (Some (Node (Some place) tags)) = option_map_or (λ value. point_row id value place) (map.get tags key) []
node_row key id _ = []

-- the row of an entry, where it has one
unfoldable pub tag_row : (key : List ℕ) → Entry → List ℕ
tag_row key entry = node_row key entry.key.id entry.object

-- this row, where a key of this kind is that of a node
abbrev pub of_node : Kind → List ℕ → List ℕ
of_node kinds.Node row = row
of_node kinds.Way row = []
of_node kinds.Relation row = []

-- the rows of all nodes, by rising id
abbrev pub points_text : (key : List ℕ) → ObjectSet → List ℕ
points_text key objects = flat_map (λ (at, object). of_node at.kind (node_row key at.id (Some object))) (map.entries objects)

-- the text of the points with this key of the objects that these entries make
abbrev pub points_text_of : List ℕ → List Entry → List ℕ
points_text_of key entries = points_text (chars key) (folded_all map.empty entries)
