-- The rows of a table in the order of their numbers.
use Rattle.std.specs.Prelude.{◌<◌, ℕ, ◌==◌, Bool, List, filter, map}
use Rattle.std.specs.Ordering.{eq_by_cmp, int_cmp, on, then_cmp}
use Rattle.std.specs.declared.cmp.Ordering.{Ordering}
use Rattle.std.specs.declared.ops.Bound.{Bound}
use Rattle.std.specs.declared.ops.Bound.TheVariants.{Included, Excluded, Unbounded}
use Rattle.std.specs.FinMap as finite
use Rattle.std.specs.List.{IsDistinct}
use Rattle.osm_base.specs.map.Spots.{SpotOf, TableMap}
use Rattle.osm_base.specs.values.Key.{KeyOf}
use Rattle.osm_base.specs.values.KeyOrder.{key_cmp}
use Rattle.osm_base.specs.declared.values.row.Row.{Row}
use Rattle.row_text.specs.declared.numbered.KeyedRow.{KeyedRow}
use Rattle.row_text.specs.Row.{signed_number}

-- those of rows that stand in a table, with the keys of their objects
abbrev pub rows_among : (table : ℕ) → List (SpotOf × Row) → List (KeyOf × Row)
rows_among table rows = map (λ (spot, row). (spot.key, row)) (filter (λ (spot, row). spot.table == table) rows)

-- the rows of a table by rising keys
abbrev pub rows_of : TableMap → (table : ℕ) → List (KeyOf × Row)
rows_of tables table = rows_among table (finite.entries tables)

-- the order of rows by their numbers, and then by their keys
abbrev pub by_number : (of_areas : Bool) → KeyOf → KeyOf → Ordering
by_number of_areas = then_cmp (on (signed_number of_areas) int_cmp) key_cmp

-- no two rows stand at one place of it
abbrev pub HasEachOnce : (of_areas : Bool) → List (KeyOf × Row) → Type 0
HasEachOnce of_areas rows = IsDistinct (eq_by_cmp (by_number of_areas)) (map (λ (key, row). key) rows)

-- the rows of a table in this order
abbrev pub rows_by_number : (of_areas : Bool) → TableMap → (table : ℕ) → List (KeyOf × Row)
rows_by_number of_areas tables table = finite.entries (finite.from_entries {R = by_number of_areas} (rows_of tables table))

-- a row as it stands in memory
abbrev pub seen : KeyedRow → KeyOf × Row
seen own = (own.key, own.row.now)

-- and its key
abbrev pub key_of : KeyedRow → KeyOf
key_of own = own.key

-- a bound is that of an earlier table, or leaves none out
abbrev pub IsInFront : (table : ℕ) → Bound SpotOf → Type 0
IsInFront table (Excluded spot) = spot.table < table
IsInFront table (Included spot) = spot.table < table
IsInFront table Unbounded = Unit {0}

-- a bound is that of a later table, or leaves none out
abbrev pub IsBehind : (table : ℕ) → Bound SpotOf → Type 0
IsBehind table (Excluded spot) = table < spot.table
IsBehind table (Included spot) = table < spot.table
IsBehind table Unbounded = Unit {0}
