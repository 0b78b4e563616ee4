-- Edges of rings from their south ends to their north ends, by natural numbers: how far north of the pole and east of the antimeridian
-- their ends are.
use Rattle.std.specs.Prelude.{◌≡◌, ◌≤◌, ◌+◌, ◌-◌, ◌*◌, ℕ, Bool, true, ◌&&◌, nat_le, nat_lt, List, [], ◌∷◌, if◌then◌else◌}
use Rattle.std.specs.Coded.{×_prop, Unit-prop}
use Rattle.std.proofs.Props.{props}
use Rattle.std.specs.List.{AllByRecursion}
use Rattle.lanes_geo.specs.Nesting.{Ring}
use Rattle.ring_nest.specs.Edge.{EdgeOf}
use Rattle.ring_nest.specs.declared.row.Row.{Row}
use Rattle.lanes_geo.specs.Grid.{east_of, north_of}
use Rattle.osm_base.specs.values.Place.{PlaceOf}

-- whether an edge has a latitude, its north end left out
abbrev pub straddles : (north : ℕ) → EdgeOf → Bool
straddles north edge = nat_le edge.low north && nat_lt north edge.high

-- the two products whose order says on which side of an edge a place of its latitudes is
abbrev pub own_share : (east : ℕ) → EdgeOf → ℕ
own_share east edge = east * (edge.high - edge.low)

abbrev pub edge_share : (north : ℕ) → EdgeOf → ℕ
edge_share north edge = (north - edge.low) * edge.at_high + (edge.high - north) * edge.at_low

-- whether an edge passes a place strictly east of it
abbrev pub passes : (north east : ℕ) → EdgeOf → Bool
passes north east edge = straddles north edge && nat_lt (own_share east edge) (edge_share north edge)

-- at a latitude the one is not east of the other
abbrev pub IsWestAt : (north : ℕ) → (one other : EdgeOf) → Type 0
IsWestAt north one other = edge_share north one * (other.high - other.low) ≤ edge_share north other * (one.high - one.low)

-- whatever place the one passes on its east side, the other does too
abbrev pub IsWest : (one other : EdgeOf) → Type 0
IsWest one other = (north east : ℕ) → straddles north one ≡ true → straddles north other ≡ true → passes north east one ≡ true → passes north east other ≡ true

-- edges from west to east
abbrev pub AreWest : List EdgeOf → Type 0
AreWest [] = Unit {0}
AreWest (edge ∷ []) = Unit {0}
AreWest (edge ∷ next ∷ edges) = IsWest edge next × AreWest (next ∷ edges)

pub AreWest-prop : (edges : List EdgeOf) → IsProp (AreWest edges)
AreWest-prop [] = Unit-prop
AreWest-prop (edge ∷ []) = Unit-prop
AreWest-prop (edge ∷ next ∷ edges) = ×_prop (hlevel props) (AreWest-prop (next ∷ edges))

-- whether an edge goes over a slab of latitudes
abbrev pub spans : (low high : ℕ) → EdgeOf → Bool
spans low high edge = nat_le edge.low low && nat_le high edge.high

-- an edge goes over a slab of latitudes, from one up to another one
pub record Spans (low high : ℕ) (edge : EdgeOf) : Type 0 where
  pub from : edge.low ≤ low
  pub to : high ≤ edge.high

-- the edges of a slab, from west to east where they are in order
pub record IsRow (low high : ℕ) (row : Row) : Type 0 where
  pub spans : AllByRecursion (Spans low high) row.edges.items
  pub in_order : row.is_ordered ≡ true → AreWest row.edges.items

-- the edge of a ring between two places, the first of which is south of the second
abbrev pub edge_between : (south north : PlaceOf) → EdgeOf
edge_between south north =
    record { low = north_of south; high = north_of north; at_low = east_of south; at_high = east_of north }

-- the edges on which a ring goes north
abbrev pub rising_from : PlaceOf → List PlaceOf → List EdgeOf
rising_from place [] = []
rising_from place (next ∷ places) =
    if nat_lt (north_of place) (north_of next) then edge_between place next ∷ rising_from next places else rising_from next places

abbrev pub rising : Ring → List EdgeOf
rising [] = []
rising (place ∷ places) = rising_from place places

-- those on which it goes south
abbrev pub falling_from : PlaceOf → List PlaceOf → List EdgeOf
falling_from place [] = []
falling_from place (next ∷ places) =
    if nat_lt (north_of next) (north_of place) then edge_between next place ∷ falling_from next places else falling_from next places

abbrev pub falling : Ring → List EdgeOf
falling [] = []
falling (place ∷ places) = falling_from place places
