-- Pieces of lines and the ends at which they meet.
-- OGC Simple Features, "Curve": a line that ends where it begins is closed.
use Rattle.std.specs.Prelude.{◌≢◌, ℕ, ◌+◌, ◌<◌, ◌≤◌, Bool, not, ◌&&◌, ◌||◌, List, length, All, slice_get}
use Rattle.osm_base.specs.values.Place.{PlaceOf}
pub use Rattle.osm_base.specs.values.Line.{Line, same_place, no_place, first_place, last_place, is_closed}

-- whether a line has an end at a place
abbrev pub has_end : Line → PlaceOf → Bool
has_end line place = same_place (first_place line) place || same_place (last_place line) place

-- whether a piece is open and has an end at a place
abbrev pub fits : PlaceOf → Line → Bool
fits place piece = not (is_closed piece) && has_end piece place

-- a line that may be joined to others: two points or more, and no two equal neighbours
pub record IsPiece (piece : Line) : Type 0 where
  pub points : 2 ≤ length piece
  pub moves : (index : ℕ) → index + 1 < length piece
      → slice_get piece index ≢ slice_get piece (index + 1)

abbrev pub ArePieces : List Line → Type 0
ArePieces pieces = All IsPiece pieces
