-- The rings that open, of several: what their edges tell of a place.
use Rattle.std.specs.Prelude.{◌≡◌, ◌+◌, ℕ, Bool, cond, List, [], ◌∷◌, length, count_by}
use Rattle.lanes_geo.specs.Crossing.{crossings, odd}
use Rattle.lanes_geo.specs.Grid.{IsPlace, east_of, north_of}
use Rattle.osm_base.specs.values.Place.{PlaceOf}
use Rattle.lanes_geo.specs.Nesting.{Ring}
use Rattle.ring_nest.specs.Edge.{EdgeOf}
use Rattle.ring_nest.specs.Edges.{passes}

-- how many edges pass a place on its east side
abbrev pub count_at : PlaceOf → List EdgeOf → ℕ
count_at place edges = count_by (passes (north_of place) (east_of place)) edges

-- what the edges of a ring tell, on its two sides
pub record IsMeasured (own : Ring) (minus plus : List EdgeOf) : Type 0 where
  pub inside : (place : PlaceOf) → IsPlace place → count_at place plus ≡ count_at place minus + cond (odd own place) 1 0
  pub crossed : (place : PlaceOf) → IsPlace place → count_at place plus + count_at place minus ≡ crossings own place

-- a sum over the rings that are marked
abbrev pub sum_open : (Ring → ℕ) → List Ring → List Bool → ℕ
sum_open f [] marks = 0
sum_open f (ring ∷ rings) [] = 0
sum_open f (ring ∷ rings) (mark ∷ marks) = cond mark (f ring) 0 + sum_open f rings marks

-- how many marked rings have a place within them, and how often they are crossed
abbrev pub odd_in : PlaceOf → List Ring → List Bool → ℕ
odd_in place rings marks = sum_open (λ ring. cond (odd ring place) 1 0) rings marks

abbrev pub crossings_in : PlaceOf → List Ring → List Bool → ℕ
crossings_in place rings marks = sum_open (λ ring. crossings ring place) rings marks

-- what the edges of the marked rings tell
pub record AreMeasured (rings : List Ring) (marks : List Bool) (minus plus : List EdgeOf) : Type 0 where
  pub marked : length marks ≡ length rings
  pub inside : (place : PlaceOf) → IsPlace place → count_at place plus ≡ count_at place minus + odd_in place rings marks
  pub crossed : (place : PlaceOf) → IsPlace place → count_at place plus + count_at place minus ≡ crossings_in place rings marks
