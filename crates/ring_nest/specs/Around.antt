-- The boxes of rings, by which pairs are passed over.
use Rattle.std.specs.Prelude.{◌≡◌, ◌≤ℤ◌, ◌&&◌, ◌||◌, Bool, true, false, pos, int_le, int_lt, [], ◌∷◌, Option, Some, None}
use Rattle.std.specs.List.{AllByRecursion}
use Rattle.osm_base.specs.values.Line.{is_closed}
use Rattle.osm_base.specs.values.Place.{PlaceOf}
use Rattle.osm_base.specs.declared.values.place.GeoBox.{GeoBox}
use Rattle.lanes_geo.specs.Box.{IsWithin, box_of, meets}
use Rattle.lanes_geo.specs.Grid.{IsPlace}
use Rattle.lanes_geo.specs.Nesting.{Ring}

-- a box, where there is one
abbrev pub some_box : Option GeoBox → GeoBox
some_box None = record { west = pos 0; south = pos 0; east = pos 0; north = pos 0 }
some_box (Some box) = box

-- the box of a ring, which has at least one place
abbrev pub around : Ring → GeoBox
around ring = some_box (box_of ring)

-- the box of one place
abbrev pub at_place : PlaceOf → GeoBox
at_place place = record { west = place.lon; south = place.lat; east = place.lon; north = place.lat }

-- the box of a ring's first place
abbrev pub start : Ring → GeoBox
start [] = some_box None
start (place ∷ places) = at_place place

-- a closed ring with all places of the world and within its box
pub record IsBoxed (ring : Ring) : Type 0 where
  pub closed : is_closed ring ≡ true
  pub on_earth : AllByRecursion IsPlace ring
  pub within : AllByRecursion (IsWithin (around ring)) ring

-- a box that another one lies within
pub record Covers (box other : GeoBox) : Type 0 where
  pub west : box.west ≤ℤ other.west
  pub south : box.south ≤ℤ other.south
  pub east : other.east ≤ℤ box.east
  pub north : other.north ≤ℤ box.north

-- whether a place lies in a box, and not on its west, its east or its north side
abbrev pub is_well_within : GeoBox → PlaceOf → Bool
is_well_within box place =
    (int_lt box.west place.lon && int_lt place.lon box.east) && (int_le box.south place.lat && int_lt place.lat box.north)

-- whether a ring in this box may hold another one: by the first two places of that
abbrev pub may_hold : GeoBox → Ring → Bool
may_hold box [] = false
may_hold box (first ∷ []) = is_well_within box first
may_hold box (first ∷ second ∷ places) = meets (at_place second) box || is_well_within box first
