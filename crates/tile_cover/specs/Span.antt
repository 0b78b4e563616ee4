-- The columns of one row that a segment meets.
use Rattle.std.specs.Prelude.{◌≡◌, ℕ, ◌+◌, ◌*◌, ◌≤◌, nat_lt, nat_le, int_le, pos, ◌-ℤ◌, ℤ, Bool, false, ◌&&◌, Option, Some, None}
use Rattle.osm_base.specs.declared.values.place.GeoBox.{GeoBox}
use Rattle.lanes_geo.specs.Crossing.{Segment, crosses}
use Rattle.tile_cover.specs.declared.span.Span.{Span}
use Rattle.tile_cover.specs.declared.climb.Climb.{Climb}
use Rattle.tile_cover.specs.Table.{BoundsOf, boundary}
use Rattle.tile_cover.specs.Tile.{touches, north_west, box_between}

-- a latitude counted from the south pole on, as it was
abbrev pub lat_of : ℕ → ℤ
lat_of north = pos north -ℤ pos 900000000

-- the segment of natural numbers
abbrev pub segment_of : Climb → Segment
segment_of climb = record {
  start = record { lon = pos climb.start; lat = lat_of climb.south };
  end = record { lon = pos climb.end; lat = lat_of climb.north };
}

-- natural numbers of the world, from a southern end to a northern one
pub record IsWithinWorld (columns : ℕ) (climb : Climb) : Type 0 where
  pub climbs : climb.south ≤ climb.north
  pub on_earth : climb.north ≤ 1800000000
  pub start_within : climb.start ≤ columns * 3600000000
  pub end_within : climb.end ≤ columns * 3600000000

-- they meet what a segment meets, and cross what it crosses
pub record IsSame (segment : Segment) (climb : Climb) : Type 0 where
  pub touch : (south north x : ℕ) → south ≤ north
      → touches (box_between (lat_of south) (lat_of north) x) segment
      ≡ touches (box_between (lat_of south) (lat_of north) x) (segment_of climb)
  pub cross : (south north x : ℕ) → crosses (north_west (box_between (lat_of south) (lat_of north) x)) segment
      ≡ crosses (north_west (box_between (lat_of south) (lat_of north) x)) (segment_of climb)

-- whether a span has a column, and whether it goes through the northern side of the row further east
abbrev pub covers : ℕ → Span → Bool
covers x span = nat_le span.first x && nat_le x span.last

abbrev pub is_further : ℕ → Span → Bool
is_further x span = span.straddles && nat_lt x span.first

-- what a span says of a segment and the tile of a column. Where the tile is touched it is met, whatever is crossed.
abbrev pub Tells : GeoBox → ℕ → Segment → Option Span → Type 0
Tells box x segment None = (touches box segment ≡ false) × (crosses (north_west box) segment ≡ false)
Tells box x segment (Some span) =
    (touches box segment ≡ covers x span) × (touches box segment ≡ false → crosses (north_west box) segment ≡ is_further x span)

-- whether a segment reaches a row: it neither ends south of it nor begins north of it
abbrev pub is_reached : BoundsOf → Climb → ℕ → Bool
is_reached table climb row = int_le (boundary table (row + 1)) (lat_of climb.north) && int_le (lat_of climb.south) (boundary table row)
