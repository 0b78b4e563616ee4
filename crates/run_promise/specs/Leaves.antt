-- What the outside is after a run that came to an ending.
use Rattle.std.specs.Prelude.{◌≡◌, ◌≢◌, ◌⊎◌, ◌≤◌, ℕ, List, [], Option, Some}
use Rattle.outside.specs.Bytes.{IfTold, IsTold}
use Rattle.outside.specs.Disk.{Crashes, DiskView}
use Rattle.run_promise.specs.declared.fault.Fault.{Fault}
use Rattle.run_promise.specs.declared.fault.Fault.TheVariants.{ReadFault, WriteFault, DiskFault}
use Rattle.run_promise.specs.Keeps.{Is, IsOneOf, Keeps, Kept}
use Rattle.run_promise.specs.Progress.{Standing, unused, unknown, keeps, half_made, Progress, Ending, IsIn}
use Rattle.run_promise.specs.World.{World, Before, ReadFailed, WriteFailed, DiskFailed, Took}

-- the disk was at most looked at; or it keeps this, and after any fault but its own it tells what a read gives
abbrev pub StandsOn : Option Fault → Standing → Before → DiskView → Type 0
StandsOn fault unused old new = new.content ≡ old.content
StandsOn fault unknown old new = Unit {0}
StandsOn fault (keeps kept) old new = Keeps new kept × (fault ≢ Some DiskFault → IsTold new.content)
StandsOn fault half_made old new = Unit {0}

-- the bytes are those of a history after this many steps or more
abbrev pub IsPast : ℕ → Standing → List ℕ → Type 0
IsPast cut (keeps kept) bytes = (steps : ℕ) × (cut ≤ steps) × Is bytes kept.history steps
IsPast cut _ bytes = ⊥

-- a crash at each moment since then leaves what the history at the beginning allows, or steps of the one at the end, from the
-- cut on
pub record Survives (before : Kept) (cut : ℕ) (store : Standing) (moment : ℕ) (crashes : Crashes) : Type 0 where
  pub later : moment ≤ crashes.moment
  pub each : (left : List ℕ) → crashes.outcomes_since moment left → IsOneOf before left ⊎ IsPast cut store left

-- the same where the disk kept a history as the run began
abbrev pub SurvivesFrom : (from : Standing) → (cut : ℕ) → (store : Standing) → (moment : ℕ) → Crashes → Type 0
SurvivesFrom (keeps before) cut store moment crashes = Survives before cut store moment crashes
SurvivesFrom _ cut store moment crashes = Unit {0}

-- the call of the outside that a fault blames has failed
abbrev pub HasCause : Before → World → Option Fault → Type 0
HasCause old new (Some (ReadFault file)) = ReadFailed old new
HasCause old new (Some WriteFault) = WriteFailed old new
HasCause old new (Some DiskFault) = DiskFailed old new
HasCause old new _ = Unit {0}

pub record Leaves (start : Progress) (ending : Ending) (old : Before) (new : World) : Type 0 where
  -- the output took what was written whole, and some front of the text that was being written
  pub output : Took ending.done.written ending.writing old new
  -- each file that was read is at its end, and no other was touched but the one that was being read
  pub at_end : (file : ℕ) → IsIn ending.done.read file → IfTold (old.left file) (λ _. new.files.left file ≡ Some [])
  pub others : (file : ℕ) → ¬ IsIn ending.done.read file → Some file ≢ ending.reading → new.files.left file ≡ old.left file
  -- the disk keeps its history, at the end and at each moment of the run
  pub store : StandsOn ending.fault ending.done.store old new.disk
  pub moments : SurvivesFrom start.store ending.done.cut ending.done.store old.moment new.disk.crashes
  -- the call that is blamed has failed, and no count of faults fell
  pub cause : HasCause old new ending.fault
  pub reads : old.read_faults ≤ new.files.faults
  pub writes : old.write_faults ≤ new.output.faults
  pub disk : old.disk_faults ≤ new.disk.faults
