-- A place on the earth, as contracts see it: a longitude and a latitude in units of 1e-7 degree.
-- osmium OPL manual, "OPL Format": the fields x and y are the longitude and the latitude of a node.
use Rattle.std.specs.Prelude.{ℤ, neg_ℤ, ◌≤ℤ◌}
use Rattle.osm_base.specs.declared.values.place.TheConstants.{MAX_LON, MAX_LAT}

-- a longitude and a latitude
pub record PlaceOf : Type 0 where
  pub lon : ℤ
  pub lat : ℤ

-- no further east, west, north or south than the earth goes
pub record IsOnEarth (lon lat : ℤ) : Type 0 where
  pub east : lon ≤ℤ MAX_LON
  pub west : neg_ℤ MAX_LON ≤ℤ lon
  pub north : lat ≤ℤ MAX_LAT
  pub south : neg_ℤ MAX_LAT ≤ℤ lat
