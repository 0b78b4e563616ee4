-- The latitudes of the places of rings.
use Rattle.std.specs.Prelude.{ℕ, ◌==◌, count_by}
use Rattle.lanes_geo.specs.Grid.{north_of}
use Rattle.osm_base.specs.values.Place.{PlaceOf}
use Rattle.lanes_geo.specs.Nesting.{Ring}

-- how many places of a ring have a latitude, by how far north of the south pole it is
abbrev pub at_latitude : ℕ → Ring → ℕ
at_latitude north ring = count_by (λ (own : PlaceOf). north_of own == north) ring
