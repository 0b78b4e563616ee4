use Rattle.std.proofs.Common.{List, length, take, Ok}
use Rattle.osm_base.specs.declared.values.row.TableRow.{TableRow}
use Rattle.osm_base.specs.values.Key.{KeyOf}
use Rattle.store_maps.specs.Append.{set_all_rows}
use Rattle.store_maps.specs.Asked.{May}
use Rattle.store_maps.specs.Looks.{Sets}
use Rattle.store_maps.specs.Maps.{Maps}
use Rattle.update_step.specs.Touch.{MayAllRows}
use Rattle.update_step.specs.Turned.{HasTurned}
use Rattle.update_step.proofs.row_lists.put_rows.Given as goal

-- the keys so far have their rows
abbrev pub invariant-loop-index : goal.invariant-loop-index
invariant-loop-index g l = record {
  holds : (under : g.S.MapStore.Under) (maps : Maps) (old new : KeyOf → List TableRow) → g.S.MapStore.holds l.initial.store under maps
      → HasTurned (length (g.S.MapStore.style l.initial.store).tables) maps l.keys old new l.turned l.rows
      → g.S.MapStore.holds l.store under (set_all_rows maps new (take l.index l.keys));
  within : (may : May) → MayAllRows may l.keys → g.S.MapStore.within may l.initial.store → g.S.MapStore.within may l.store;
  sets : Sets {A = Unit {0}} g.S.MapStore.looked g.S.Back.spent g.S.Back.bears g.S.Back.faults l.initial.store l.store (Ok tt);
}
