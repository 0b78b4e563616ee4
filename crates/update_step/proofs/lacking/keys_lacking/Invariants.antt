use Rattle.osm_base.specs.map.Objects.{ObjectSet}
use Rattle.row_rules.specs.Condition.{reaches_nodes}
use Rattle.row_rules.specs.Rows.{rows_in}
use Rattle.store_maps.specs.Asked.{May}
use Rattle.store_maps.specs.Maps.{Maps}
use Rattle.store_maps.specs.Stands.{StandsOn}
use Rattle.update_step.specs.Lacking.{AreLacking}
use Rattle.update_step.specs.Looks.{HasLooked}
use Rattle.update_step.specs.Touch.{MayEntries}
use Rattle.update_step.specs.Unknown.{AreUnplaced}
use Rattle.update_step.proofs.lacking.keys_lacking.Given as goal

-- the keys so far have no rows
abbrev pub invariant-loop-entry : goal.invariant-loop-entry
invariant-loop-entry g l = record {
  lacking : (under : g.S.MapStore.Under) (maps : Maps) (objects : ObjectSet) → g.S.MapStore.holds l.initial.store under maps
      → StandsOn (reaches_nodes l.style) maps objects → AreLacking (rows_in l.style objects) l.keys.items;
  unplaced : (under : g.S.MapStore.Under) (maps : Maps) → g.S.MapStore.holds l.initial.store under maps → AreUnplaced maps l.keys.items;
  within : (may : May) → MayEntries may l.change → g.S.MapStore.within may l.initial.store → g.S.MapStore.within may l.store;
  looks : HasLooked g.S.MapStore g.S.Back l.initial.store l.store;
}
