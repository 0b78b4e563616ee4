use Rattle.std.proofs.Common.{take, Ok}
use Rattle.store_maps.specs.Filling.{all_objects_on}
use Rattle.store_maps.specs.Looks.{Sets}
use Rattle.store_maps.specs.Maps.{Maps}
use Rattle.update_step.proofs.importing.add_entries.Given as goal

-- the objects of the entries so far are there
abbrev pub invariant-loop-entry : goal.invariant-loop-entry
invariant-loop-entry g l = record {
  holds : (under : g.S.MapStore.Under) (maps : Maps) → g.S.MapStore.holds l.initial.store under maps
      → g.S.MapStore.holds l.store under (all_objects_on maps (take l.entry-index l.entries));
  sets : Sets {A = Unit {0}} g.S.MapStore.looked g.S.Back.spent g.S.Back.bears g.S.Back.faults l.initial.store l.store (Ok tt);
}
