use Rattle.std.proofs.Common.{take}
use Rattle.store_maps.specs.Asked.{May}
use Rattle.store_maps.specs.Maps.{Maps}
use Rattle.store_maps.specs.Named.{known_on}
use Rattle.update_step.specs.Gather.{Gathers, gathered_in}
use Rattle.update_step.specs.Looks.{HasLooked}
use Rattle.update_step.specs.Touch.{MayAskAll}
use Rattle.update_step.proofs.gathering.ask_all.Given as goal

-- the answers so far
abbrev pub invariant-loop-ask : goal.invariant-loop-ask
invariant-loop-ask g l = record {
  gathers : (under : g.S.MapStore.Under) (maps : Maps) → g.S.MapStore.holds l.initial.store under maps
      → Gathers (known_on maps) (gathered_in l.initial.answers) (gathered_in l.answers) (take l.ask-index l.asks);
  within : (may : May) → MayAskAll may l.asks → g.S.MapStore.within may l.initial.store → g.S.MapStore.within may l.store;
  looks : HasLooked g.S.MapStore g.S.Back l.initial.store l.store;
}
