-- What a disk keeps of a history.
use Rattle.std.specs.Prelude.{◌≡◌, ℕ, ◌+◌, ◌≤◌, List, [], ◌∷◌, ◌++◌, length, take}
use Rattle.outside.specs.Bytes.{IsTold}
use Rattle.outside.specs.Disk.{DiskView, Within}
use Rattle.update_flow.specs.History.{History, state_after}
use Rattle.update_flow.specs.Stands.{StandsFor}
use Rattle.update_flow.specs.State.{formatted, Step}

-- the history of a store that was just made
abbrev pub blank : History
blank = record { base = formatted; steps = [] }

-- the first steps of a history
abbrev pub first : ℕ → History → History
first count history = record { base = history.base; steps = take count history.steps }

-- a history with these steps more
abbrev pub with_steps : List Step → History → History
with_steps steps history = record { base = history.base; steps = history.steps ++ steps }

-- the bytes are those of a store after so many steps of a history
pub record Is (bytes : List ℕ) (history : History) (steps : ℕ) : Type 0 where
  pub within : steps ≤ length history.steps
  pub stands : StandsFor bytes (state_after (first steps history))

-- a history of which a disk has so many steps at least, and so many at most
pub record Kept : Type 0 where
  pub history : History
  pub least : ℕ
  pub most : ℕ

-- the bytes are those after one of these numbers of steps
abbrev pub IsOneOf : Kept → List ℕ → Type 0
IsOneOf kept bytes = (steps : ℕ) × (kept.least ≤ steps) × (steps ≤ kept.most) × Is bytes kept.history steps

-- a crash now leaves one of them
abbrev pub Keeps : DiskView → Kept → Type 0
Keeps disk kept = Within (IsOneOf kept) disk.crashes

-- all steps of a history, and no doubt
abbrev pub whole : History → Kept
whole history = record { history = history; least = length history.steps; most = length history.steps }

-- one step more, which is done
abbrev pub with_step : Step → Kept → Kept
with_step step kept = whole (with_steps (step ∷ []) kept.history)

-- one step more, which may be done
abbrev pub perhaps : Step → Kept → Kept
perhaps step kept =
    record { history = with_steps (step ∷ []) kept.history; least = length kept.history.steps; most = length kept.history.steps + 1 }

-- no step is in doubt but the last one of the history
pub record IsFit (kept : Kept) : Type 0 where
  pub order : kept.least ≤ kept.most
  pub last : kept.most ≡ length kept.history.steps
  pub one : kept.most ≤ kept.least + 1

-- the disk keeps such a history, and tells what a read gives
pub record IsKept (disk : DiskView) (kept : Kept) : Type 0 where
  pub keeps : Keeps disk kept
  pub told : IsTold disk.content
  pub fit : IsFit kept
