use Rattle.std.proofs.Common.{Bool, take, Ok}
use Rattle.osm_base.specs.map.Objects.{ObjectSet}
use Rattle.store_maps.specs.Asked.{May}
use Rattle.store_maps.specs.Looks.{Sets}
use Rattle.store_maps.specs.Maps.{Maps}
use Rattle.store_maps.specs.Stands.{StandsOn}
use Rattle.store_maps.specs.Step.{change_on}
use Rattle.update_step.specs.Touch.{MayTurnAll}
use Rattle.update_step.proofs.entries.apply_change.Given as goal

-- what the entries so far say is so
abbrev pub invariant-loop-entry : goal.invariant-loop-entry
invariant-loop-entry g l = record {
  holds : (under : g.S.MapStore.Under) (maps : Maps) → g.S.MapStore.holds l.initial.store under maps
      → g.S.MapStore.holds l.store under (change_on maps (take l.entry-index l.entry-items));
  within : (under : g.S.MapStore.Under) (maps : Maps) → g.S.MapStore.holds l.initial.store under maps
      → (reaches : Bool) (objects : ObjectSet) → StandsOn reaches maps objects
      → (may : May) → MayTurnAll objects may l.change → g.S.MapStore.within may l.initial.store → g.S.MapStore.within may l.store;
  sets : Sets {A = Unit {0}} g.S.MapStore.looked g.S.Back.spent g.S.Back.bears g.S.Back.faults l.initial.store l.store (Ok tt);
}
