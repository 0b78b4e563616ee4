-- The coordinates of the fields of a line are on the earth.
use Rattle.std.specs.Prelude.{neg_ℤ, ◌≤ℤ◌, IfSome}
use Rattle.osm_base.specs.declared.values.place.TheConstants.{MAX_LON, MAX_LAT}
use Rattle.opl_object.specs.declared.parts.Parts.{Parts}

-- the longitude is a longitude, and the latitude a latitude
pub record AreOnEarth (parts : Parts) : Type 0 where
  pub east : IfSome parts.lon (λ lon. lon ≤ℤ MAX_LON)
  pub west : IfSome parts.lon (λ lon. neg_ℤ MAX_LON ≤ℤ lon)
  pub north : IfSome parts.lat (λ lat. lat ≤ℤ MAX_LAT)
  pub south : IfSome parts.lat (λ lat. neg_ℤ MAX_LAT ≤ℤ lat)
