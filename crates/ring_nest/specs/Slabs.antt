-- Edges by slabs of latitudes: those that go over a whole slab, and the others by its halves.
use Rattle.std.specs.Prelude.{◌≡◌, ◌<◌, ◌≤◌, ◌+◌, ◌&&◌, ℕ, Bool, not, nat_lt, List, count_by, if◌then◌else◌}
use Rattle.std.proofs.Props.{props}
use Rattle.std.specs.Coded.{Unit-prop}
use Rattle.ring_nest.specs.Edge.{EdgeOf}
use Rattle.ring_nest.specs.declared.slabs.Slabs.{Slabs}
use Rattle.ring_nest.specs.declared.slabs.Slabs.TheVariants.{Few, Slab'}
use Rattle.ring_nest.specs.declared.row.Row.{Row}
use Rattle.ring_nest.specs.Edges.{AreWest-prop, IsRow, passes, spans}

-- whether an edge goes over the whole of a slab
abbrev pub is_across : (low high : ℕ) → EdgeOf → Bool
is_across low high edge = spans low high edge

-- whether it goes on in the slab's south half, or in its north one
abbrev pub is_south : (low middle high : ℕ) → EdgeOf → Bool
is_south low middle high edge = not (spans low high edge) && (nat_lt low edge.high && nat_lt edge.low middle)

abbrev pub is_north : (low middle high : ℕ) → EdgeOf → Bool
is_north low middle high edge = not (spans low high edge) && (nat_lt middle edge.high && nat_lt edge.low high)

-- how many edges pass a place strictly east of it, as they are counted by slabs
abbrev pub count_in : Slabs → (north east : ℕ) → ℕ
count_in (Few edges) north east = count_by (passes north east) edges.items
count_in (Slab' row middle p south q upper) north east =
    count_by (passes north east) row.edges.items + (if nat_lt north middle then count_in south north east else count_in upper north east)

-- slabs between two latitudes
abbrev pub AreSlabs : (low high : ℕ) → Slabs → Type 0
AreSlabs low high (Few edges) = Unit {0}
AreSlabs low high (Slab' row middle p south q upper) = IsRow low high row × AreSlabs low middle south × AreSlabs middle high upper

IsRow-prop : (low high : ℕ) (row : Row) → IsProp (IsRow low high row)
IsRow-prop low high row = hlevel (AreWest-prop row.edges.items, props)

-- slabs lie between two latitudes in one way at most
pub AreSlabs-prop : (low high : ℕ) (slabs : Slabs) → IsProp (AreSlabs low high slabs)
AreSlabs-prop low high (Few edges) = Unit-prop
AreSlabs-prop low high (Slab' row middle p south q upper) =
    hlevel (IsRow-prop low high row, AreSlabs-prop low middle south, AreSlabs-prop middle high upper)

-- the edges are counted
abbrev pub Counts : (low high : ℕ) → List EdgeOf → Slabs → Type 0
Counts low high edges slabs = (north east : ℕ) → low ≤ north → north < high → count_in slabs north east ≡ count_by (passes north east) edges
