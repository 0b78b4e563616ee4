-- What is told of a change to those who keep the tables.
use Rattle.std.specs.Prelude.{◌≡◌, ◌≢◌, ℕ, nat_eq, true, List}
use Rattle.std.specs.List.{AllByRecursion, filter, list_any}
use Rattle.std.specs.Ordering.{eq_by_cmp}
use Rattle.std.specs.FinMap as finite
use Rattle.osm_base.specs.declared.values.row.Delta.{Delta}
use Rattle.osm_base.specs.declared.values.row.RowChange.{RowChange}
use Rattle.osm_base.specs.map.Objects.{ObjectSet}
use Rattle.osm_base.specs.map.Spots.{SpotOf, TableMap, changed_all, spot_cmp, spot_of}
use Rattle.row_rules.specs.Row.{tables}
use Rattle.style_read.specs.Style.{StyleOf}

-- the rows of one table
abbrev pub only_table : ℕ → TableMap → TableMap
only_table table all = finite.from_entries (filter (λ entry. nat_eq entry.0.table table) (finite.entries all))

-- the changes of rows are those that lead from these tables to those, and no other
pub record AreChanges (old new : TableMap) (changes : List RowChange) : Type 0 where
  pub each : AllByRecursion (λ (change : RowChange). (change.row ≡ finite.get new (spot_of change))
      × (finite.get old (spot_of change) ≢ finite.get new (spot_of change))) changes
  pub all : (spot : SpotOf) → finite.get old spot ≢ finite.get new spot
      → list_any (λ change. eq_by_cmp spot_cmp spot (spot_of change)) changes ≡ true
  pub applied : changed_all old changes ≡ new

-- the delta of a change that has this number and makes those objects of these
pub record IsDeltaOf (style : StyleOf) (old new : ObjectSet) (number : ℕ) (delta : Delta) : Type 0 where
  pub version : delta.version ≡ number
  pub changes : AreChanges (tables style old) (tables style new) delta.changes
