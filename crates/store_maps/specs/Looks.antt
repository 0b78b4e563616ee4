-- What a call on the maps of a store leaves alone, and how it may be refused.
-- The words of the store come one by one: the maps that it holds, what calls have made of what, whether it is spent, what it refuses
-- after so many faults, how many it has met, and what it may refuse although it holds maps.
use Rattle.std.specs.Prelude.{◌≡◌, ℕ, Bool, false, Result, IfErr, OnOk}
use Rattle.store_maps.specs.Maps.{Maps}

-- a call that only asks. Where it answers the maps are as they were, and more may be asked. Else it is refused for a cause of the store's
-- own, and where maps are held for one that may be. Whatever it answers, below the maps it has only read.
pub record Looks {S U E A : Type 0} (Holds : S → U → Maps → Type 0) (Makes : S → S → Type 0) (is_spent : S → Bool)
    (Bears : S → ℕ → E → Type 0) (faults : S → ℕ) (MayBe : E → Type 0) (old new : S) (result : Result A E) : Type 0 where
  pub holds : OnOk result ((under : U) (maps : Maps) → Holds old under maps → Holds new under maps)
  pub looked : (first : S) → Makes first old → Makes first new
  pub spent : OnOk result (is_spent new ≡ false)
  pub refused : IfErr result (λ refusal. (first : S) → Makes first old → Bears new (faults first) refusal)
  pub allowed : (under : U) (maps : Maps) → Holds old under maps → IfErr result MayBe

-- a call that sets something. Where it is done more may be asked; else it is refused for a cause of the store's own. Whatever it answers,
-- below the maps it has only read.
pub record Sets {S E A : Type 0} (Makes : S → S → Type 0) (is_spent : S → Bool) (Bears : S → ℕ → E → Type 0) (faults : S → ℕ)
    (old new : S) (result : Result A E) : Type 0 where
  pub looked : (first : S) → Makes first old → Makes first new
  pub spent : OnOk result (is_spent new ≡ false)
  pub refused : IfErr result (λ refusal. (first : S) → Makes first old → Bears new (faults first) refusal)
