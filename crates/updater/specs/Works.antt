-- What holds of a command over a store, and of each function below it, whatever it answers.
use Rattle.std.specs.Prelude.{◌≡◌, ◌≢◌, ℕ, List, Option, None, Some, length, replicate}
use Rattle.outside.specs.Bytes.{IfTold}
use Rattle.outside.specs.Disk.{DiskView, Stays}
use Rattle.outside.specs.declared.disk.Disk.{Ghosts}
use Rattle.update_flow.specs.Handle.{Handle}
use Rattle.update_flow.specs.SoundTurns.{IsSoundlyOpen}
use Rattle.update_flow.specs.Updater.{StaysOver, handle_of}
use Rattle.update_flow.specs.declared.updater.Updater.{Updater}
use Rattle.run_promise.specs.declared.fault.Fault.{Fault}
use Rattle.run_promise.specs.declared.fault.Fault.TheVariants.{BadStore, NotFormatted}
use Rattle.run_promise.specs.Checking.{IsTrusted}
use Rattle.run_promise.specs.CommandOf.{old_store}
use Rattle.run_promise.specs.Course.{Course}
use Rattle.run_promise.specs.Progress.{Progress}
use Rattle.run_promise.specs.Runs.{AsksOnly, Begins, GoesBy}
use Rattle.run_promise.specs.World.{World}

-- A command over a store goes by its course from wherever it may begin, asks for no file but such, leaves a disk as it is that holds no
-- store, and never tells a sound store to be damaged.
pub record Does (course : Course) (asks : List ℕ → Type 0) (named : ℕ → Type 0) (old new : World) (fault : Option Fault) : Type 0 where
  pub goes : (start : Progress) → Begins old_store old start → GoesBy course start fault old new
  pub asked : AsksOnly asks named
  pub unformatted : fault ≡ Some NotFormatted → Stays old.disk new.disk
  pub trusted : IsTrusted old.disk.content fault

-- A command that makes its store leaves a disk as it is that holds any byte, and never says that it holds no store.
pub record Makes (fault : Option Fault) (old new : DiskView) : Type 0 where
  pub looked : IfTold old.content (λ bytes. length bytes ≢ 0 → Stays old new)
  pub formatted : fault ≢ Some NotFormatted

-- a command that names no file
abbrev pub NoFile : ℕ → Type 0
NoFile file = ⊥

-- What comes of an open sound store: no damaged page is told, and where no fault is the store is an open sound one still.
pub record EndsSound (fault : Option Fault) (store : Handle) : Type 0 where
  pub never : (page : ℕ) → fault ≢ Some (BadStore page)
  pub stays : fault ≡ None → IsSoundlyOpen store

-- that, of a store that was one before
abbrev pub KeepsSound : Option Fault → (before after : Handle) → Type 0
KeepsSound fault before after = IsSoundlyOpen before → EndsSound fault after

-- An open store stays open over its disk, under its limits, and a sound one is kept. No fault says that the disk holds no store.
pub record KeepsOpen {D : Type 0} {g : Ghosts D} (fault : Option Fault) (old new : Updater D g) : Type 0 where
  pub stays : StaysOver old new
  pub formatted : fault ≢ Some NotFormatted
  pub sound : KeepsSound fault (handle_of old) (handle_of new)

-- So it is, and only this file is asked for, some times.
pub record WorksOn {D : Type 0} {g : Ghosts D} (asks : List ℕ → Type 0) (file : ℕ) (fault : Option Fault)
    (old new : Updater D g) : Type 0 where
  pub keeps : KeepsOpen fault old new
  pub asked : (count : ℕ) × asks (replicate count file)

-- So it is, and no file but such is asked for.
pub record Works {D : Type 0} {g : Ghosts D} (asks : List ℕ → Type 0) (named : ℕ → Type 0) (fault : Option Fault)
    (old new : Updater D g) : Type 0 where
  pub keeps : KeepsOpen fault old new
  pub asked : AsksOnly asks named
