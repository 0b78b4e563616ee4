-- Places counted from the south west corner of the world, so that both numbers are natural.
use mir.Syntax.{w32}
use Rattle.std.specs.Prelude.{ℕ, zero, suc, ℤ, pos, List, [], ◌∷◌, ◌++◌, FitsSigned, min, max, nat_lt, if◌then◌else◌, ◌+◌, ◌-◌, ◌+ℤ◌}
use Rattle.std.specs.Prelude.{unsigned_abs}
use mathlib.Core.Bool.{beq}
use Rattle.osm_base.specs.declared.values.place.GeoBox.{GeoBox}
use Rattle.osm_base.specs.values.Place.{PlaceOf, IsOnEarth}
use Rattle.osm_base.specs.declared.values.place.TheConstants.{MAX_LON, MAX_LAT}

-- a place of the world
abbrev pub IsPlace : PlaceOf → Type 0
IsPlace place = IsOnEarth place.lon place.lat

-- how far east of the antimeridian
abbrev pub east_of : PlaceOf → ℕ
east_of place = unsigned_abs (place.lon +ℤ MAX_LON)

-- how far north of the south pole
abbrev pub north_of : PlaceOf → ℕ
north_of place = unsigned_abs (place.lat +ℤ MAX_LAT)

-- how far two numbers are apart
abbrev pub apart : ℕ → ℕ → ℕ
apart here number = (number - here) + (here - number)

-- the same of an end of a segment, and 0 where both ends are above `here`, or none
abbrev pub kept : ℕ → ℕ → ℕ → ℕ → ℕ
kept here start end number = if beq (nat_lt here start) (nat_lt here end) then 0 else apart here number

-- a number of 32 bits with its order kept, from 0 on
abbrev pub raised : ℤ → ℕ
raised number = unsigned_abs (number +ℤ pos 2147483648)

-- the sides of a box
abbrev pub side_lanes : GeoBox → List ℕ
side_lanes box = raised box.west ∷ (raised box.south ∷ (raised box.east ∷ (raised box.north ∷ [])))

-- what the sides of a box that meets this one are not below, and not above
abbrev pub least_lanes : GeoBox → List ℕ
least_lanes asked = 0 ∷ (0 ∷ (raised asked.west ∷ (raised asked.south ∷ [])))

abbrev pub most_lanes : GeoBox → List ℕ
most_lanes asked = raised asked.east ∷ (raised asked.north ∷ (4294967295 ∷ (4294967295 ∷ [])))

-- four lanes, four times
abbrev pub sixteen : List ℕ → List ℕ
sixteen lanes = lanes ++ (lanes ++ (lanes ++ lanes))

-- numbers of 32 bits
pub record FitBox (box : GeoBox) : Type 0 where
  pub west : FitsSigned w32 box.west
  pub south : FitsSigned w32 box.south
  pub east : FitsSigned w32 box.east
  pub north : FitsSigned w32 box.north

-- the least and the greatest of numbers of 32 bits
abbrev pub least_of : List ℕ → ℕ
least_of [] = 4294967295
least_of (number ∷ numbers) = min number (least_of numbers)

abbrev pub greatest_of : List ℕ → ℕ
greatest_of [] = 0
greatest_of (number ∷ numbers) = max number (greatest_of numbers)

-- the numbers in even places, and in odd ones, counted from 0
abbrev pub evens_of : {A : Type 0} → List A → List A
evens_of [] = []
evens_of (x ∷ []) = x ∷ []
evens_of (x ∷ y ∷ xs) = x ∷ evens_of xs

abbrev pub odds_of : {A : Type 0} → List A → List A
odds_of [] = []
odds_of (x ∷ []) = []
odds_of (x ∷ y ∷ xs) = y ∷ odds_of xs

-- the longitude and the latitude of each place
abbrev pub coordinates_of : List PlaceOf → List ℤ
coordinates_of [] = []
coordinates_of (place ∷ places) = place.lon ∷ (place.lat ∷ coordinates_of places)

-- what the latitude of a place north of this one is above, and no longitude is, some times
abbrev pub bounds_of : PlaceOf → ℕ → List ℤ
bounds_of place zero = []
bounds_of place (suc n) = MAX_LON ∷ (place.lat ∷ bounds_of place n)
