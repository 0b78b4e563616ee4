-- How the rows of tables differ before a change and after it.
-- osm2pgsql manual, "Updating an Existing Database": the rows of a changed object are deleted, and it is written anew.
use Rattle.std.specs.Prelude.{◌≡◌, ◌≢◌, ℕ, Bool, true, List, [], ◌∷◌, map, nat_eq, if◌then◌else◌, Option, None, Some}
use Rattle.std.specs.declared.cmp.Ordering.{Ordering}
use Rattle.std.specs.List.{AllByRecursion, list_any}
use Rattle.std.specs.List.Sorted.{IsStrictlySortedBy}
use Rattle.std.specs.Ordering.{eq_by_cmp, nat_cmp, on, then_cmp}
use Rattle.osm_base.specs.declared.values.row.Row.{Row}
use Rattle.osm_base.specs.declared.values.row.RowChange.{RowChange}
use Rattle.osm_base.specs.declared.values.row.TableRow.{TableRow}
use Rattle.osm_base.specs.map.Spots.{SpotOf, spot_cmp, spot_of}
use Rattle.osm_base.specs.values.KeyOrder.{key_cmp}
use Rattle.store_maps.specs.Maps.{Maps, kept_rows, rows_at}

-- the rows of all spots
abbrev pub RowsAt : Type 0
RowsAt = SpotOf → Option Row

-- the order in which changes are told: by key and then by table
abbrev pub told_cmp : SpotOf → SpotOf → Ordering
told_cmp = then_cmp (on (λ spot. spot.key) key_cmp) (on (λ spot. spot.table) nat_cmp)

abbrev pub is_at : SpotOf → SpotOf → Bool
is_at spot other = eq_by_cmp spot_cmp spot other

-- the changes are exactly those that lead from the old rows to the new ones, each once
pub record IsDelta (old new : RowsAt) (changes : List RowChange) : Type 0 where
  pub each : AllByRecursion (λ change. (change.row ≡ new (spot_of change)) × (old (spot_of change) ≢ new (spot_of change))) changes
  pub all : (spot : SpotOf) → old spot ≢ new spot → list_any (λ change. is_at spot (spot_of change)) changes ≡ true
  pub once : IsStrictlySortedBy told_cmp (map spot_of changes)

-- the row of a table among the rows of a key
abbrev pub row_in : List TableRow → ℕ → Option Row
row_in [] table = None
row_in (first ∷ rows) table = if nat_eq first.table table then Some first.row else row_in rows table

-- the rows that maps hold
abbrev pub kept_row : Maps → RowsAt
kept_row maps spot = row_in (kept_rows (rows_at maps spot.key.kind spot.key.id)) spot.table
