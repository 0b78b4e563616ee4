-- The points and the line of a way.
-- OGC Simple Features, "LineString": a line is a sequence of two or more points. osmium manual, "osmium export": a node without a
-- place gives no point, and a point equal to the one before it is dropped.
use Rattle.std.specs.Prelude.{ℕ, List, length, nat_le, if◌then◌else◌, Option, None, Some}
use Rattle.std.specs.List.{dedup, filter_map}
use Rattle.osm_base.specs.values.Place.{PlaceOf}
use Rattle.piece_ends.specs.Pieces.{Line, same_place}

-- the places of the nodes that have one, in order, each that equals the one before it dropped
abbrev pub points : (ℕ → Option PlaceOf) → List ℕ → Line
points place nodes = dedup same_place (filter_map place nodes)

-- these points, where there are at least two
abbrev pub line_through : Line → Option Line
line_through points = if nat_le 2 (length points) then Some points else None

-- the line of a way along these nodes, if it has one
abbrev pub line : (ℕ → Option PlaceOf) → List ℕ → Option Line
line place nodes = line_through (points place nodes)
