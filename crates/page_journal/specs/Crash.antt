-- What a run of disk calls leaves at each moment.
use Rattle.std.specs.Prelude.{◌≡◌, ◌≢◌, ◌⊎◌, ℕ, ◌+◌, ◌*◌, ◌<◌, ◌≤◌, List, length, slice_index}
use Rattle.outside.specs.Disk.{Crashes, DiskView, Goes, Only, Tells}
use Rattle.page_journal.specs.Home.{Home}
use Rattle.page_journal.specs.Pages.{gate}
use Rattle.page_journal.specs.declared.layout.TheConstants.{OPEN, FIRST_AT, FIELDS_END, GATE_AT, PAGE_LEN}

-- the new content has the old one's bytes at these places
pub record Spares (K : ℕ → Type 0) (old new : List ℕ) : Type 0 where
  pub no_shorter : length old ≤ length new
  pub same : (i : ℕ) → i < length old → K i → slice_index new i ≡ slice_index old i

-- the store is at rest: its disk gives these bytes, and a crash leaves nothing else; the gate is shut, and these are
-- the home pages
pub record IsSettled (pages : List (List ℕ)) (bytes : List ℕ) (view : DiskView) : Type 0 where
  pub told : Tells view bytes
  pub only : Only bytes view.crashes
  pub shut : gate bytes ≢ OPEN
  pub home : Home pages bytes

-- the store is at rest with these home pages
abbrev pub IsAtRest : List (List ℕ) → DiskView → Type 0
IsAtRest pages view = (bytes : List ℕ) × IsSettled pages bytes view

-- at each moment since then a crash leaves what it might have left before, or a store with the one home pages or with
-- the other
abbrev pub LeavesEither : (one other : List (List ℕ)) → DiskView → DiskView → Type 0
LeavesEither one other old new = Goes (λ left. Home one left ⊎ Home other left) old.crashes new.crashes

-- the places below `low` that are not the journal's fields in page 0
abbrev pub BesideJournal : ℕ → ℕ → Type 0
BesideJournal low i = ((i < FIRST_AT) ⊎ (FIELDS_END ≤ i)) × (i < low)

-- all places but the gate
abbrev pub BesideGate : ℕ → Type 0
BesideGate i = i ≢ GATE_AT

-- the places outside of these pages
abbrev pub BesidePages : ℕ → (ℕ → ℕ) → ℕ → Type 0
BesidePages count numbers i = (place : ℕ) → place < count → (i < PAGE_LEN * numbers place) ⊎ (PAGE_LEN * numbers place + PAGE_LEN ≤ i)

-- each outcome of a crash has home pages
abbrev pub AllHome : Crashes → Type 0
AllHome crashes = (left : List ℕ) → crashes.outcomes left → (pages : List (List ℕ)) × Home pages left

-- a content with the home pages of one of these outcomes
pub record IsLikeOne (crashes : Crashes) (left : List ℕ) : Type 0 where
  pub one : List ℕ
  pub among : crashes.outcomes one
  pub pages : List (List ℕ)
  pub had : Home pages one
  pub has : Home pages left
