-- The text of the tiles that are due: a line for each of them and for each tile above it.
-- osm2pgsql manual, "Tile Expiry": the list of expired tiles has a line `zoom/x/y` for each tile.
use Rattle.std.specs.Prelude.{ℕ, ◌+◌, ◌-◌, ◌*◌, ◌/◌, ◌%◌, ◌^◌, ◌==◌, suc, zero, Bool, ◌&&◌, List, [], ◌++◌, codes, flat_map, nat_le}
use Rattle.std.specs.Fmt.{decimal}
use Rattle.std.specs.List.{filter, list_any, range_with_len}
use Rattle.tile_cover.specs.declared.runs.Run.{Run}
use Rattle.tile_cover.specs.declared.runs.TheConstants.{MAX_ZOOM}

-- how many tiles of a deeper zoom lie side by side in one of this zoom
abbrev pub width : ℕ → ℕ → ℕ
width deeper zoom = 2 ^ (deeper - zoom)

-- a tile is above one of a run, or is one of it: row and columns are halved from zoom to zoom, and rounded down
abbrev pub is_above : ℕ → ℕ → ℕ → Run → Bool
is_above zoom x y run =
    nat_le zoom run.zoom && ((run.y / width run.zoom zoom) == y &&
    (nat_le (run.first / width run.zoom zoom) x && nat_le x (run.last / width run.zoom zoom)))

-- the tiles of a zoom are numbered column by column
abbrev pub column_of : ℕ → ℕ → ℕ
column_of zoom number = number / 2 ^ zoom

abbrev pub tile_row : ℕ → ℕ → ℕ
tile_row zoom number = number % 2 ^ zoom

-- the tile of a number is above one of these runs, or one of them
abbrev pub is_listed : List Run → ℕ → ℕ → Bool
is_listed runs zoom number = list_any (is_above zoom (column_of zoom number) (tile_row zoom number)) runs

-- the line of a tile
unfoldable pub tile_line : ℕ → ℕ → ℕ → List ℕ
tile_line zoom x y = decimal zoom ++ codes "/" ++ decimal x ++ codes "/" ++ decimal y ++ codes "\n"

abbrev pub line_of : ℕ → ℕ → List ℕ
line_of zoom number = tile_line zoom (column_of zoom number) (tile_row zoom number)

-- the lines of those tiles of a zoom that are listed
unfoldable pub zoom_text : List Run → ℕ → List ℕ
zoom_text runs zoom = flat_map (line_of zoom) (filter (is_listed runs zoom) (range_with_len 0 (2 ^ zoom * 2 ^ zoom)))

-- the lines of so many zooms, from this one on
abbrev pub zooms_text : List Run → ℕ → ℕ → List ℕ
zooms_text runs zoom zero = []
zooms_text runs zoom (suc count) = zoom_text runs zoom ++ zooms_text runs (zoom + 1) count

-- the lines from a least zoom on
abbrev pub tile_text : List Run → ℕ → List ℕ
tile_text runs least = zooms_text runs least ((MAX_ZOOM + 1) - least)
