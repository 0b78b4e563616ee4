-- Rings whose edges tell how many of them hold a ring, without looking at each.
use Rattle.std.specs.Prelude.{◌≡◌, ◌<◌, ◌+◌, ◌-◌, ◌==◌, ◌-ℤ◌, ℕ, pos, Bool, false, cond, not, List, length, map, count_by, slice_index_or}
use Rattle.std.proofs.Props.{props}
use Rattle.std.specs.List.{filter, range_with_len}
use Rattle.std.specs.List.Sorted.{IsNonDecreasing, IsPermutation}
use Rattle.lanes_geo.specs.Crossing.{crossings}
use Rattle.lanes_geo.specs.Grid.{IsPlace, east_of, north_of}
use Rattle.osm_base.specs.values.Place.{PlaceOf}
use Rattle.lanes_geo.specs.Nesting.{Ring, holds, ring_at}
use Rattle.ring_nest.specs.declared.known.Known.{Known}
use Rattle.ring_nest.specs.declared.opened.TheConstants.{TOP}
use Rattle.ring_nest.specs.declared.slabs.Slabs.{Slabs}
use Rattle.ring_nest.specs.Around.{around}
use Rattle.ring_nest.specs.Holders.{IsTree, IsTree-prop, numbers_of}
use Rattle.ring_nest.specs.Latitudes.{at_latitude}
use Rattle.ring_nest.specs.Opened.{crossings_in, odd_in, sum_open}
use Rattle.ring_nest.specs.Slabs.{AreSlabs, AreSlabs-prop, count_in}

-- the place next to another one in the west
abbrev pub westward : PlaceOf → PlaceOf
westward place = record { lon = place.lon -ℤ pos 1; lat = place.lat }

-- how much more often a ring is crossed there
abbrev pub near : PlaceOf → Ring → ℕ
near place ring = crossings ring (westward place) - crossings ring place

-- whether the ring with a number is marked
abbrev pub is_marked : List Bool → ℕ → Bool
is_marked marks at = slice_index_or marks at false

-- the part that the ring with a number has of a sum over marked rings
abbrev pub own_part : (Ring → ℕ) → List Ring → List Bool → ℕ → ℕ
own_part f rings marks at = cond (is_marked marks at) (f (ring_at rings at)) 0

-- no other marked ring has a place at a latitude, and none passes between a place and the one next to it in the west
pub record Tells (rings : List Ring) (marks : List Bool) (at : ℕ) (place : PlaceOf) : Type 0 where
  pub lats : sum_open (at_latitude (north_of place)) rings marks ≡ own_part (at_latitude (north_of place)) rings marks at
  pub few : sum_open (near place) rings marks ≡ own_part (near place) rings marks at

-- the numbers of the rings that are not marked
abbrev pub unmarked : List Bool → List ℕ
unmarked marks = filter (λ number. not (is_marked marks number)) (range_with_len 0 (length marks))

-- how many marked rings hold a ring, and how many others do
abbrev pub marked_holders : List Ring → List Bool → Ring → ℕ
marked_holders rings marks ring = sum_open (λ other. cond (holds other ring) 1 0) rings marks

abbrev pub other_holders : List Ring → List Bool → Ring → ℕ
other_holders rings marks ring = sum_open (λ other. cond (holds other ring) 1 0) rings (map not marks)

-- how many edges pass a place strictly east of it
abbrev pub counted_at : PlaceOf → Slabs → ℕ
counted_at place slabs = count_in slabs (north_of place) (east_of place)

-- slabs that can be asked at each place
pub record AreCounted (slabs : Slabs) : Type 0 where
  pub are : AreSlabs 0 TOP slabs
  pub few : (place : PlaceOf) → IsPlace place → counted_at place slabs < 18446744073709551616

-- what is known of rings
pub record IsKnown (rings : List Ring) (known : Known) : Type 0 where
  pub marked : length known.marks.items ≡ length rings
  pub minus : AreCounted known.minus
  pub plus : AreCounted known.plus
  pub inside : (place : PlaceOf) → IsPlace place → counted_at place known.plus ≡ counted_at place known.minus + odd_in place rings known.marks.items
  pub crossed : (place : PlaceOf) → IsPlace place → counted_at place known.plus + counted_at place known.minus ≡ crossings_in place rings known.marks.items
  pub rising : IsNonDecreasing known.lats.items
  pub lats : (north : ℕ) → count_by (λ own. own == north) known.lats.items ≡ sum_open (at_latitude north) rings known.marks.items
  pub others : IsTree (map around rings) known.others
  pub all_others : ∥ IsPermutation (unmarked known.marks.items) (numbers_of known.others) ∥₁

AreCounted-prop : (slabs : Slabs) → IsProp (AreCounted slabs)
AreCounted-prop slabs = hlevel (AreSlabs-prop 0 TOP slabs, props)

-- rings are known in one way at most
pub IsKnown-prop : (rings : List Ring) (known : Known) → IsProp (IsKnown rings known)
IsKnown-prop rings known = hlevel (AreCounted-prop known.minus, AreCounted-prop known.plus, IsTree-prop (map around rings) known.others, props)
