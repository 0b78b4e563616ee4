-- The order in which places are looked up, and what a tree of places holds.
use Rattle.std.specs.Prelude.{ℕ}
use Rattle.std.specs.Ordering.{int_cmp, on, then_cmp}
use Rattle.std.specs.declared.cmp.Ordering.{Ordering}
use Rattle.std.specs.BTreeMap.{BTreeMap}
use Rattle.std.specs.FinMap as map
use Rattle.osm_base.specs.values.Place.{PlaceOf}

-- by longitude and then by latitude
abbrev pub place_cmp : PlaceOf → PlaceOf → Ordering
place_cmp = then_cmp (on (λ place. place.lon) int_cmp) (on (λ place. place.lat) int_cmp)

-- from places to the numbers of pieces
abbrev pub HeadMap : Type 0
HeadMap = map.FinMap place_cmp ℕ

abbrev pub heads_in : BTreeMap PlaceOf ℕ → HeadMap
heads_in heads = map.from_entries heads.entries
