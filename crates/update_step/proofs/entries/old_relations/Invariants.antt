use Rattle.std.proofs.Common.{◌≡◌, fold, take}
use Rattle.std.specs.FinMap as finite
use Rattle.store_maps.specs.Asked.{May}
use Rattle.store_maps.specs.Maps.{Maps}
use Rattle.update_step.specs.Looks.{HasLooked}
use Rattle.update_step.specs.Old.{with_old}
use Rattle.update_step.specs.Touch.{MayEntries}
use Rattle.update_step.proofs.entries.old_relations.Given as goal

-- the relations that the entries so far replace
abbrev pub invariant-loop-entry : goal.invariant-loop-entry
invariant-loop-entry g l = record {
  old : (under : g.S.MapStore.Under) (maps : Maps) → g.S.MapStore.holds l.initial.store under maps
      → l.objects ≡ fold (with_old maps) finite.empty (take l.entry-index l.entry-items);
  within : (may : May) → MayEntries may l.change → g.S.MapStore.within may l.initial.store → g.S.MapStore.within may l.store;
  looks : HasLooked g.S.MapStore g.S.Back l.initial.store l.store;
}
