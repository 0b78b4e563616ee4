use Rattle.std.proofs.Common.{◌≡◌, ◌++◌, ◌||◌, ℕ}
use Rattle.std.specs.List.{filter_map, list_any, range_with_len}
use Rattle.store_maps.specs.Told.{change_in}
use Rattle.tile_cover.specs.Runs.{has}
use Rattle.update_step.specs.Due.{is_due_in}
use Rattle.update_step.specs.Turned.{is_turned_in}
use Rattle.update_step.proofs.turns.turn_key.Given as goal

-- the tables so far
abbrev pub invariant-loop-table : goal.invariant-loop-table
invariant-loop-table l = record {
  told : l.changes ≡ l.initial.changes ++ filter_map (change_in l.key l.old l.new) (range_with_len 0 l.table);
  due : (zoom x y : ℕ) → has l.tiles zoom x y
      ≡ (has l.initial.tiles zoom x y || list_any (is_due_in l.style l.bounds l.old l.new zoom x y) (range_with_len 0 l.table));
  turned : l.turned ≡ list_any (is_turned_in l.old l.new) (range_with_len 0 l.table);
}
