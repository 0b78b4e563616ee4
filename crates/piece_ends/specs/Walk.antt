-- How a line is made longer out of the pieces that are not used yet.
-- The pieces stand in the order of their numbers, so the first that fits has the lowest number.
use Rattle.std.specs.Prelude.{ℕ, zero, suc, List, [], ◌∷◌, ◌++◌, length, drop, reverse, Option, None, Some, if◌then◌else◌}
use Rattle.std.specs.Option.{option_map, option_map_or}
use Rattle.osm_base.specs.values.Place.{PlaceOf}
use Rattle.piece_ends.specs.Pieces.{Line, same_place, first_place, last_place, is_closed, fits}

-- the lowest open piece with an end at a place, and the pieces without it
abbrev pub next_at : PlaceOf → List Line → Option (Line × List Line)
next_at place [] = None
next_at place (piece ∷ pieces) =
    if fits place piece then Some (piece, pieces)
    else option_map (λ found. (found.0, piece ∷ found.1)) (next_at place pieces)

-- a piece turned round if its first place is not there
abbrev pub turned_to : PlaceOf → Line → Line
turned_to place piece = if same_place (first_place piece) place then piece else reverse piece

-- a line with a piece behind it, without its repeated point
abbrev pub appended : Line → Line → Line
appended line piece = line ++ drop 1 (turned_to (last_place line) piece)

-- a line, and the pieces that are left, after at most so many steps: while its two ends differ, the
-- lowest piece with an end at its last place is appended
unfoldable pub extended : ℕ → Line → List Line → Line × List Line
extended zero line unused = (line, unused)
extended (suc steps) line unused =
    if is_closed line then (line, unused)
    else option_map_or
    (λ found. extended steps (appended line found.0) found.1)
    (next_at (last_place line) unused)
    (line, unused)

-- the lines of at most so many pieces, where `grown` makes a line of a piece and of the others: a
-- closed piece is a line by itself, and otherwise the lowest piece begins one
unfoldable pub lines_within : (Line → List Line → Line × List Line) → ℕ → List Line → List Line
lines_within grown zero unused = []
lines_within grown (suc count) [] = []
lines_within grown (suc count) (piece ∷ unused) =
    if is_closed piece then piece ∷ lines_within grown count unused
    else (grown piece unused).0 ∷ lines_within grown count (grown piece unused).1

-- the lines of all pieces; each is begun by its lowest piece, and they stand in the order of those
abbrev pub lines_by : (Line → List Line → Line × List Line) → List Line → List Line
lines_by grown pieces = lines_within grown (length pieces) pieces
