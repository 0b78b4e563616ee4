-- Rings closed out of pieces at their ends.
-- OGC Simple Features, "LinearRing": a ring is a closed line, so it has at least four points, the
-- last one counted.
use Rattle.std.specs.Prelude.{◌%◌, ◌==◌, nat_le, Bool, List, [], ◌∷◌, length, count_by, Option, None, Some, if◌then◌else◌}
use Rattle.std.specs.List.{flat_map, list_any, list_all}
use Rattle.osm_base.specs.values.Place.{PlaceOf}
use Rattle.piece_ends.specs.Pieces.{Line, same_place, first_place, last_place, is_closed}
use Rattle.piece_ends.specs.Walk.{extended, lines_by}

-- the first and the last place of each open piece
abbrev pub ends_of : Line → List PlaceOf
ends_of piece = if is_closed piece then [] else first_place piece ∷ last_place piece ∷ []

abbrev pub open_ends : List Line → List PlaceOf
open_ends pieces = flat_map ends_of pieces

-- whether a place holds an odd number of ends
abbrev pub is_odd_among : List PlaceOf → PlaceOf → Bool
is_odd_among ends place = count_by (λ end. same_place end place) ends % 2 == 1

abbrev pub has_odd_place : List PlaceOf → Bool
has_odd_place ends = list_any (is_odd_among ends) ends

-- the ring that a piece begins: the lowest that fits is appended until the place is the start
abbrev pub ring_begun : Line → List Line → Line × List Line
ring_begun piece unused = extended (length unused) piece unused

abbrev pub has_four_points : Line → Bool
has_four_points ring = nat_le 4 (length ring)

-- the rings of pieces; none where a place holds an odd number of open ends, or a ring is too short
abbrev pub rings : List Line → Option (List Line)
rings pieces =
    let closed = lines_by ring_begun pieces in
    if has_odd_place (open_ends pieces) then None else
    if list_all has_four_points closed then Some closed else None
