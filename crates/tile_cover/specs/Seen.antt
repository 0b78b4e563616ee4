-- What the segments of a geometry are to one tile.
use Rattle.std.specs.Prelude.{◌≡◌, ℕ, ◌<◌, ◌^◌, ◌%◌, ◌==◌, false, not, ◌||◌, if◌then◌else◌, List, count_by}
use Rattle.std.specs.List.{list_any}
use Rattle.osm_base.specs.declared.values.place.GeoBox.{GeoBox}
use Rattle.lanes_geo.specs.Crossing.{Segment, crosses}
use Rattle.tile_cover.specs.declared.tile.Tile.{Tile}
use Rattle.tile_cover.specs.declared.seen.Seen.{Seen}
use Rattle.tile_cover.specs.Span.{lat_of}
use Rattle.tile_cover.specs.Table.{BoundsOf, IsTable}
use Rattle.tile_cover.specs.Tile.{touches, north_west, box_between, tile_box}

abbrev pub box_of : Tile → GeoBox
box_of tile = box_between (lat_of tile.south) (lat_of tile.north) tile.x

-- it is a tile in a row of a table
pub record IsTileOf (table : BoundsOf) (row : ℕ) (tile : Tile) : Type 0 where
  pub whole : IsTable table
  pub within : row < 2 ^ table.zoom
  pub columns : tile.columns ≡ 2 ^ table.zoom
  pub sides : box_of tile ≡ tile_box table tile.x row

-- what is seen after some segments. Where none touches the tile, those that cross east of its corner count.
pub record Sees (box : GeoBox) (all : List Segment) (old new : Seen) : Type 0 where
  pub touched : new.touched ≡ (old.touched || list_any (touches box) all)
  pub odd : new.touched ≡ false → new.odd ≡ (if (count_by (crosses (north_west box)) all % 2 == 1) then not old.odd else old.odd)
