-- The geometry of a row.
-- osm2pgsql manual, "Geometry Types": the point of a node, the line of a way, the polygons of a closed way or of a relation, and the lines
-- of
-- a relation. "Areas": a relation bounds an area where its tag `type` is `multipolygon` or `boundary`.
use Rattle.std.specs.Prelude.{ℕ, ◌-◌, Bool, not, ◌&&◌, ◌||◌, ◌++◌, ◌∷◌, List, [], length, codes, fold, nat_eq, nat_le, slice_index}
use Rattle.std.specs.Prelude.{if◌then◌else◌, Option, None, Some}
use Rattle.std.specs.List.{filter_map, list_any}
use Rattle.std.specs.Option.{option_and_then, option_map, option_to_list}
use Rattle.osm_base.specs.declared.values.key.Kind.TheVariants as kinds
use Rattle.osm_base.specs.declared.values.object.Member.{Member}
use Rattle.osm_base.specs.declared.values.object.Object.{Object}
use Rattle.osm_base.specs.declared.values.object.Object.TheVariants.{Node, Way, Relation}
use Rattle.osm_base.specs.declared.values.row.Geometry.{Geometry}
use Rattle.osm_base.specs.declared.values.row.Geometry.TheVariants as shapes
use Rattle.osm_base.specs.values.Key.{KeyOf}
use Rattle.osm_base.specs.values.Line.{Line}
use Rattle.osm_base.specs.values.Place.{PlaceOf}
use Rattle.osm_base.specs.values.Tags.{TagMap}
use Rattle.style_read.specs.declared.style.Source.{Source}
use Rattle.style_read.specs.declared.style.Source.TheVariants as sources
use Rattle.piece_ends.specs.Joins.{joined_lines}
use Rattle.piece_ends.specs.Points.{line}
use Rattle.piece_ends.specs.Rings.{rings}
use Rattle.lanes_geo.specs.Nesting.{nested}
use Rattle.row_rules.specs.Condition.{has_value}
use Rattle.osm_base.specs.map.Listers.{is_kind}

-- whether a member is a way that none of these is
abbrev pub is_new_way : List KeyOf → Member → Bool
is_new_way ways member = is_kind kinds.Way member.key.kind && not (list_any (λ way. nat_eq way.id member.key.id) ways)

abbrev pub with_way : List KeyOf → Member → List KeyOf
with_way ways member = if is_new_way ways member then ways ++ member.key ∷ [] else ways

-- the ways among members, each once, in the order of its first membership
abbrev pub ways_among : List Member → List KeyOf
ways_among members = fold with_way [] members

-- the line of a way, if there is one and it has a line
abbrev pub line_in : (ℕ → Option PlaceOf) → Option Object → Option Line
line_in place (Some (Way nodes tags)) = line place nodes
line_in place _ = None

-- the lines of ways, those that have none left out
abbrev pub lines_along : (ℕ → Option PlaceOf) → (KeyOf → Option Object) → List KeyOf → List Line
lines_along place object ways = filter_map (λ way. line_in place (object way)) ways

-- the pieces of a relation with these members: the lines of its ways. Roles are not used.
abbrev pub pieces : (ℕ → Option PlaceOf) → (KeyOf → Option Object) → List Member → List Line
pieces place object members = lines_along place object (ways_among members)

-- lines, where there is at least one
abbrev pub some_lines : List Line → Option Geometry
some_lines lines = if nat_le 1 (length lines) then Some (shapes.Lines lines) else None

-- the polygons of rings, where there is at least one ring and each has its place
abbrev pub some_area : List Line → Option Geometry
some_area bounds = if nat_le 1 (length bounds) then option_map shapes.Area (nested bounds) else None

-- the area that pieces bound, where they bound one
abbrev pub area : List Line → Option Geometry
area bounds = option_and_then some_area (rings bounds)

-- whether a way bounds an area: its first and its last node are the same, and it has at least four
abbrev pub bounds_area : List ℕ → Bool
bounds_area nodes = nat_le 4 (length nodes) && nat_eq (slice_index nodes 0) (slice_index nodes (length nodes - 1))

-- whether a relation with these tags bounds one
abbrev pub is_area : TagMap → Bool
is_area tags = has_value tags (codes "type") (codes "multipolygon") || has_value tags (codes "type") (codes "boundary")

-- the geometry of an object in a table of this source, where it is of the source and its geometry is defined
abbrev pub geometry_of : (ℕ → Option PlaceOf) → (KeyOf → Option Object) → Source → Object → Option Geometry
geometry_of place object sources.Node (Node own tags) = option_map shapes.Point own
geometry_of place object sources.Way (Way nodes tags) = option_map shapes.Line (line place nodes)
geometry_of place object sources.Area (Way nodes tags) = if bounds_area nodes then area (option_to_list (line place nodes)) else None
geometry_of place object sources.Area (Relation members tags) = if is_area tags then area (pieces place object members) else None
geometry_of place object sources.Relation (Relation members tags) = some_lines (joined_lines (pieces place object members))
geometry_of _ _ _ _ = None
