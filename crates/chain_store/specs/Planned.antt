-- What a commit makes of a sound store, page by page.
use Rattle.std.specs.Prelude.{◌≡◌, ℕ, ◌+◌, ◌<◌, ◌≤◌, List, ◌++◌}
use Rattle.chain_store.specs.Chain.{HasPages}
use Rattle.chain_store.specs.Directories.{IsChain}
use Rattle.chain_store.specs.State.{IsSound}
use Rattle.chain_store.specs.Parts.{AreFreed, AreLaid, AreOld, Begin, IsNoPart, head_or, times, times_new, times_old, up_from}
use Rattle.chain_store.specs.declared.layout.TheConstants.{FREE}
use Rattle.chain_store.specs.declared.parts.Laid.{Laid}

-- the old pages of the parts, the free pages `used ++ kept` and `more` pages behind the end are dealt: each part has its
-- new pages, `left` are free again, and `kept` stay free
pub record Covered (page : ℕ → List ℕ) (home more : ℕ) (first : ℕ → ℕ) (parts : List Laid) (used left kept : List ℕ) : Type 0 where
  pub sound : IsSound page home first
  pub some : 2 ≤ home
  pub old : AreOld page home first parts
  pub free_is : HasPages page home FREE (first FREE) (used ++ kept)
  pub covers : (p : ℕ) → times_new p parts + (times p left + times p kept) ≡ times_old p parts + times p (used ++ kept)
      + times p (up_from home more)

-- and the pages are written so
pub record Planned (page new : ℕ → List ℕ) (home more : ℕ) (first next : ℕ → ℕ) (parts : List Laid) (used left kept : List ℕ) : Type 0 where
  pub covered : Covered page home more first parts used left kept
  pub laid : AreLaid new parts
  pub freed : AreFreed new (head_or kept 0) left
  pub stays : (p : ℕ) → 2 ≤ p → p < home → times_new p parts ≡ 0 → times p left ≡ 0 → new p ≡ page p
  pub begins : Begin next parts
  pub free_begins : next FREE ≡ head_or (left ++ kept) 0
  pub others_begin : (n : ℕ) → IsChain n → IsNoPart n parts → next n ≡ first n
