-- The columns that segments meet, row by row, and the tiles that they tell.
use Rattle.std.specs.Prelude.{◌≡◌, ℕ, ◌+◌, ◌<◌, ◌≤◌, ◌^◌, ◌==◌, Bool, false, ◌&&◌, ◌||◌, if◌then◌else◌, List, count_by}
use Rattle.std.specs.List.{list_any}
use Rattle.lanes_geo.specs.Crossing.{Segment, crosses}
use Rattle.tile_cover.specs.declared.events.Event.{Event}
use Rattle.tile_cover.specs.Table.{BoundsOf}
use Rattle.tile_cover.specs.Tile.{touches, tile_box, north_west}
use Rattle.tile_cover.specs.Span.{covers, is_further}

-- whether an event has a tile, and whether it goes through the northern side of the tile's row further east
abbrev pub is_at : ℕ → ℕ → Event → Bool
is_at row x event = (event.row == row) && covers x event.span

abbrev pub is_beyond : ℕ → ℕ → Event → Bool
is_beyond row x event = (event.row == row) && is_further x event.span

-- the columns of an event are columns of a row
pub record IsEvent (columns : ℕ) (event : Event) : Type 0 where
  pub row : event.row < columns
  pub ordered : event.span.first ≤ event.span.last
  pub within : event.span.last < columns

-- events gain what segments meet. Where no event has a tile, those further east are as many more as segments cross there.
pub record Gains (table : BoundsOf) (all : List Segment) (old new : List Event) : Type 0 where
  pub any : (x row : ℕ) → x < 2 ^ table.zoom → row < 2 ^ table.zoom
      → list_any (is_at row x) new ≡ (list_any (is_at row x) old || list_any (touches (tile_box table x row)) all)
  pub count : (x row : ℕ) → x < 2 ^ table.zoom → row < 2 ^ table.zoom → list_any (is_at row x) new ≡ false
      → count_by (is_beyond row x) new ≡ count_by (is_beyond row x) old + count_by (crosses (north_west (tile_box table x row))) all

-- the same of one segment, in rows of which a test tells
pub record GainsIn (table : BoundsOf) (rows : ℕ → Bool) (segment : Segment) (old new : List Event) : Type 0 where
  pub any : (x row : ℕ) → x < 2 ^ table.zoom → row < 2 ^ table.zoom
      → list_any (is_at row x) new ≡ (list_any (is_at row x) old || (rows row && touches (tile_box table x row) segment))
  pub count : (x row : ℕ) → x < 2 ^ table.zoom → row < 2 ^ table.zoom → list_any (is_at row x) new ≡ false
      → count_by (is_beyond row x) new ≡ count_by (is_beyond row x) old
      + (if (rows row && crosses (north_west (tile_box table x row)) segment) then 1 else 0)
