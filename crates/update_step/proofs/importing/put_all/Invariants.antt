use Rattle.std.proofs.Common.{◌≡◌, List, map, take, Ok}
use Rattle.osm_base.specs.declared.values.row.TableRow.{TableRow}
use Rattle.osm_base.specs.values.Key.{KeyOf}
use Rattle.geom_workers.specs.Keys.{keys_of}
use Rattle.store_maps.specs.Append.{set_all_rows}
use Rattle.store_maps.specs.Looks.{Sets}
use Rattle.store_maps.specs.Maps.{Maps}
use Rattle.update_step.specs.Importing.{LacksRows}
use Rattle.update_step.proofs.importing.put_all.Given as goal

-- the keys so far have their rows
abbrev pub invariant-loop-index : goal.invariant-loop-index
invariant-loop-index g l = record {
  holds : (under : g.S.MapStore.Under) (maps : Maps) (new : KeyOf → List TableRow) → l.rows ≡ map new (keys_of l.keys.set)
      → LacksRows maps new
      → g.S.MapStore.holds l.initial.store under maps
      → g.S.MapStore.holds l.store under (set_all_rows maps new (take l.index (keys_of l.keys.set)));
  sets : Sets {A = Unit {0}} g.S.MapStore.looked g.S.Back.spent g.S.Back.bears g.S.Back.faults l.initial.store l.store (Ok tt);
}
