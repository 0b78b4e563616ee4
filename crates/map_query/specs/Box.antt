-- Boxes that may be asked for.
use Rattle.std.specs.Prelude.{ℤ, neg_ℤ, ◌≤ℤ◌}
use Rattle.osm_base.specs.declared.values.place.GeoBox.{GeoBox}
use Rattle.osm_base.specs.declared.values.place.TheConstants.{MAX_LON, MAX_LAT}

-- no further east or west than the earth goes
pub record IsLongitude (lon : ℤ) : Type 0 where
  pub east : lon ≤ℤ MAX_LON
  pub west : neg_ℤ MAX_LON ≤ℤ lon

-- no further north or south
pub record IsLatitude (lat : ℤ) : Type 0 where
  pub north : lat ≤ℤ MAX_LAT
  pub south : neg_ℤ MAX_LAT ≤ℤ lat

-- a box of the earth: no side lies beyond the one opposite
pub record IsBox (box : GeoBox) : Type 0 where
  pub across : box.west ≤ℤ box.east
  pub along : box.south ≤ℤ box.north
  pub lons : IsLongitude box.west × IsLongitude box.east
  pub lats : IsLatitude box.south × IsLatitude box.north
