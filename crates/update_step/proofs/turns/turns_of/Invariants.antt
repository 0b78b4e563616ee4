use Rattle.std.proofs.Common.{◌≡◌, ◌||◌, ℕ, List, length, map, take}
use Rattle.std.specs.List.{list_any}
use Rattle.osm_base.specs.declared.values.row.TableRow.{TableRow}
use Rattle.osm_base.specs.values.Key.{KeyOf}
use Rattle.store_maps.specs.Told.{told_all}
use Rattle.tile_cover.specs.Runs.{has}
use Rattle.update_step.specs.Due.{is_due_key}
use Rattle.update_step.specs.Turned.{is_turned}
use Rattle.update_step.proofs.turns.turns_of.Given as goal

-- the keys so far; their tiles are in one of the two sets
abbrev pub invariant-loop-index : goal.invariant-loop-index
invariant-loop-index l = record {
  told : (old new : KeyOf → List TableRow) → l.olds ≡ map old l.keys → l.rows ≡ map new l.keys
      → l.changes ≡ told_all (length l.style.tables) old new (take l.index l.keys);
  due : (old new : KeyOf → List TableRow) → l.olds ≡ map old l.keys → l.rows ≡ map new l.keys → (zoom x y : ℕ)
      → (has l.due zoom x y || has l.batch zoom x y)
      ≡ (has l.initial.due zoom x y || list_any (λ key. is_due_key l.style l.bounds (old key) (new key) zoom x y) (take l.index l.keys));
  turned : (old new : KeyOf → List TableRow) → l.olds ≡ map old l.keys → l.rows ≡ map new l.keys
      → l.turned.items ≡ map (λ key. is_turned (length l.style.tables) (old key) (new key)) (take l.index l.keys);
  count : length l.turned.items ≡ l.index;
}
