-- Slabs that can be asked at each place of the earth.
use Rattle.std.proofs.Common.{◌≡◌, ℕ, ◌<◌, ◌≤◌, arith, Bool, true, false, cond, List, [], ◌∷◌, length, count_by}
use Rattle.std.proofs.lemmas.List.Sums.{sum_by-cons}
use Rattle.lanes_geo.specs.Grid.{IsPlace, east_of, north_of}
use Rattle.osm_base.specs.values.Place.{PlaceOf}
use Rattle.ring_nest.specs.Edge.{EdgeOf}
use Rattle.ring_nest.specs.declared.opened.TheConstants.{TOP}
use Rattle.ring_nest.specs.declared.slabs.Slabs.{Slabs}
use Rattle.ring_nest.specs.Edges.{passes}
use Rattle.ring_nest.specs.Opened.{count_at}
use Rattle.ring_nest.specs.Slabs.{AreSlabs, Counts}
use Rattle.ring_nest.specs.Told.{AreCounted, counted_at}
use Rattle.ring_nest.proofs.Measured.{north_fits}

at_most_one : (b : Bool) → cond {A = ℕ} b 1 0 ≤ 1
at_most_one true = omega arith
at_most_one false = omega arith

count_few : (p : EdgeOf → Bool) (edges : List EdgeOf) → count_by p edges ≤ length edges
count_few p [] = omega arith
count_few p (edge ∷ edges) =
    let one = at_most_one (p edge) in
    let rest = count_few p edges in
    let parts = sum_by-cons (λ (own : EdgeOf). cond {A = ℕ} (p own) 1 0) edge edges in
    omega (arith, one, rest, parts)

pub counted : (edges : List EdgeOf) (slabs : Slabs) → Counts 0 TOP edges slabs → (place : PlaceOf) → IsPlace place → counted_at place slabs ≡ count_at place edges
counted edges slabs counts place here =
    let low = north_fits place here in
    counts (north_of place) (east_of place) (omega arith) (omega (arith, low))

pub are_counted : (edges : List EdgeOf) (slabs : Slabs) → length edges < 18446744073709551616 → AreSlabs 0 TOP slabs → Counts 0 TOP edges slabs → AreCounted slabs
are_counted edges slabs few are counts = record {
  are = are;
  few = λ place here.
      let most = count_few (passes (north_of place) (east_of place)) edges in
      omega (arith, counted edges slabs counts place here, most, few);
}
