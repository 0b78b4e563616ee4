use Rattle.std.proofs.Common.{◌≤◌, ◌<◌, ◌-◌, ℕ, length, get_or}
use Rattle.osm_base.specs.declared.values.row.TableRow.{TableRow}
use Rattle.row_store.proofs.turning.place_of.Given as goal

-- the rows so far are of tables before this one
abbrev pub invariant-loop-at : goal.invariant-loop-at
invariant-loop-at l = record {
  within : l.at ≤ length l.rows;
  before : (place : ℕ) (own : TableRow) → place < l.at → (get_or l.rows place own).table < l.table;
}

abbrev pub decreases-loop-at : goal.decreases-loop-at
decreases-loop-at l = length l.rows - l.at
