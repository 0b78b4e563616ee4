-- What a call on a store leaves alone, and how it may end.
use Rattle.std.specs.Prelude.{◌≡◌, ℕ, false, Result, IfErr, OnOk}
use Rattle.osm_base.specs.declared.map.back.Back as back
use Rattle.store_maps.specs.declared.store.MapStore as store
use Rattle.store_maps.specs.Maps.{Maps}
use Rattle.update_step.specs.Ends.{Ends, MayRefuse}
use Rattle.update_step.specs.declared.fault.StepFault.{StepFault}

-- a call that only asks a store. Where it gives an answer the maps are as they were, and more may be asked. Else the store refused, for
-- causes of its own, or memory ran out. Whatever it answers, below the maps it has only read.
pub record Looks {S E A : Type 0} (own : store.Ghosts S E) (asked : back.Ghosts S E) (old new : S)
    (result : Result A (StepFault E)) : Type 0 where
  pub holds : OnOk result ((under : own.Under) (maps : Maps) → own.holds old under maps → own.holds new under maps)
  pub looked : (first : S) → own.looked first old → own.looked first new
  pub spent : OnOk result (asked.spent new ≡ false)
  pub ends : IfErr result (Ends
      (λ refusal. (first : S) → own.looked first old → asked.bears new (asked.faults first) refusal)
      (asked.spent new ≡ false)
      (λ _. ⊥))
  pub allowed : (under : own.Under) (maps : Maps) → own.holds old under maps → IfErr result (MayRefuse own.allowed)

-- such calls have made the second of the first, and each has given an answer
pub record HasLooked {S E : Type 0} (own : store.Ghosts S E) (asked : back.Ghosts S E) (old new : S) : Type 0 where
  pub holds : (under : own.Under) (maps : Maps) → own.holds old under maps → own.holds new under maps
  pub looked : (first : S) → own.looked first old → own.looked first new
  pub spent : asked.spent new ≡ false

-- a call that changes a store. Where it is done more may be asked. Else the store refused, for causes of its own, or there were too many
-- keys, of whose number this is so, or memory ran out. Whatever it answers, below the maps it has only read.
pub record Goes {S E A : Type 0} (own : store.Ghosts S E) (asked : back.Ghosts S E) (many : ℕ → Type 0) (old new : S)
    (result : Result A (StepFault E)) : Type 0 where
  pub looked : (first : S) → own.looked first old → own.looked first new
  pub spent : OnOk result (asked.spent new ≡ false)
  pub ends : IfErr result (Ends
      (λ refusal. (first : S) → own.looked first old → asked.bears new (asked.faults first) refusal)
      (asked.spent new ≡ false)
      many)
