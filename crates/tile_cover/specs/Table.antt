-- The table of the latitudes that bound the rows of tiles of a zoom, from north to south.
-- osm2pgsql manual, "Tile Expiry": the world is cut into 2 ^ zoom rows and as many columns of tiles.
use Rattle.std.specs.Prelude.{◌≡◌, ℕ, ◌+◌, ◌^◌, ◌≤◌, ℤ, pos, neg_ℤ, ◌≤ℤ◌, ◌<ℤ◌, List, [], ◌∷◌, length, slice_index_or}
use Rattle.std.specs.List.{AllByRecursion}
use Rattle.osm_base.specs.declared.values.place.TheConstants.{MAX_LAT}
use Rattle.tile_cover.specs.declared.runs.TheConstants.{MAX_ZOOM}

-- a zoom, and the latitudes that bound its rows, in units of 1e-7 degree
pub record BoundsOf : Type 0 where
  pub zoom : ℕ
  pub lats : List ℤ

-- the northern side of a row, and of the last one the southern one
abbrev pub boundary : BoundsOf → ℕ → ℤ
boundary table row = slice_index_or table.lats row (pos 0)

-- a latitude of the earth
pub record IsLatitude (lat : ℤ) : Type 0 where
  pub north : lat ≤ℤ MAX_LAT
  pub south : neg_ℤ MAX_LAT ≤ℤ lat

-- each latitude is south of all before it
abbrev pub AreFalling : List ℤ → Type 0
AreFalling [] = Unit {0}
AreFalling (lat ∷ lats) = AllByRecursion (λ next. next <ℤ lat) lats × AreFalling lats

-- one latitude more than there are rows, each of the earth, from north to south
pub record IsTable (table : BoundsOf) : Type 0 where
  pub shallow : table.zoom ≤ MAX_ZOOM
  pub whole : length table.lats ≡ 2 ^ table.zoom + 1
  pub latitudes : AllByRecursion IsLatitude table.lats
  pub falling : AreFalling table.lats
