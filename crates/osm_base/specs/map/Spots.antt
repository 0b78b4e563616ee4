-- The rows of tables by their spots, and what changes make of them.
-- osm2pgsql manual, "Updating an Existing Database": the rows of a changed object are deleted, and it is written anew.
use Rattle.std.specs.Prelude.{ℕ, List, fold, Option, None, Some}
use Rattle.std.specs.declared.cmp.Ordering.{Ordering}
use Rattle.std.specs.Ordering.{nat_cmp, on, then_cmp}
use Rattle.std.specs.FinMap as map
use Rattle.osm_base.specs.values.Key.{KeyOf}
use Rattle.osm_base.specs.values.KeyOrder.{key_cmp}
use Rattle.osm_base.specs.declared.values.row.Row.{Row}
use Rattle.osm_base.specs.declared.values.row.RowChange.{RowChange}

-- where a row stands: the table's number, and the key of its object
pub record SpotOf : Type 0 where
  pub table : ℕ
  pub key : KeyOf

-- by table, and in a table by key
abbrev pub spot_cmp : SpotOf → SpotOf → Ordering
spot_cmp = then_cmp (on (λ spot. spot.table) nat_cmp) (on (λ spot. spot.key) key_cmp)

-- the rows of all tables
abbrev pub TableMap : Type 0
TableMap = map.FinMap spot_cmp Row

-- this is now the row at a spot, or there is none
abbrev pub with_row : TableMap → SpotOf → Option Row → TableMap
with_row tables spot None = map.remove tables spot
with_row tables spot (Some row) = map.insert tables spot row

-- the spot of a change
abbrev pub spot_of : RowChange → SpotOf
spot_of change = record { table = change.table; key = change.key }

-- what a change makes of the tables
abbrev pub changed : TableMap → RowChange → TableMap
changed tables change = with_row tables (spot_of change) change.row

-- what changes make of them, one after another
abbrev pub changed_all : TableMap → List RowChange → TableMap
changed_all tables changes = fold changed tables changes
