use Rattle.std.proofs.Common.{◌≡◌, List, length, map, take}
use Rattle.osm_base.specs.declared.values.row.TableRow.{TableRow}
use Rattle.osm_base.specs.values.Key.{KeyOf}
use Rattle.store_maps.specs.Asked.{May}
use Rattle.store_maps.specs.Maps.{Maps}
use Rattle.store_maps.specs.Stands.{HoldsRows}
use Rattle.update_step.specs.Lacking.{AreLacking}
use Rattle.update_step.specs.Looks.{HasLooked}
use Rattle.update_step.specs.Touch.{MayAllRows}
use Rattle.update_step.proofs.row_lists.all_before.Given as goal

-- the rows of the keys so far
abbrev pub invariant-loop-key : goal.invariant-loop-key
invariant-loop-key g l = record {
  kept : (under : g.S.MapStore.Under) (maps : Maps) (old : KeyOf → List TableRow) → g.S.MapStore.holds l.initial.store under maps
      → HoldsRows maps old → AreLacking old l.lacking
      → l.all ≡ map old (take l.key-index l.keys);
  count : length l.all ≡ l.key-index;
  within : (may : May) → MayAllRows may l.keys → g.S.MapStore.within may l.initial.store → g.S.MapStore.within may l.store;
  looks : HasLooked g.S.MapStore g.S.Back l.initial.store l.store;
}
