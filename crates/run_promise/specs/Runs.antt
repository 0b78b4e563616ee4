-- What a run does to the outside.
use Rattle.std.specs.Prelude.{◌≡◌, ◌≢◌, ◌⊎◌, ℕ, List, [], length, Option, Some}
use Rattle.std.specs.List.{AllByRecursion}
use Rattle.outside.specs.Bytes.{IfTold}
use Rattle.outside.specs.Disk.{DiskView, NoneNew, Stays}
use Rattle.outside.specs.Inputs.{FilesView}
use Rattle.run_promise.specs.declared.fault.Fault.{Fault}
use Rattle.run_promise.specs.declared.fault.Fault.TheVariants.{Usage, NotFormatted}
use Rattle.run_promise.specs.Ahead.{IsReadAhead, MayBeAhead}
use Rattle.run_promise.specs.Causes.{Cause}
use Rattle.run_promise.specs.Checking.{IsCheckedRun, IsTrusted}
use Rattle.run_promise.specs.Comes.{Comes}
use Rattle.run_promise.specs.CommandOf.{CommandOf, Names, Use, no_store, new_store, old_store, use_of}
use Rattle.run_promise.specs.Course.{Course}
use Rattle.run_promise.specs.Courses.{course_of}
use Rattle.run_promise.specs.Keeps.{Kept, IsKept}
use Rattle.run_promise.specs.Leaves.{Leaves}
use Rattle.run_promise.specs.Locality.{IsLocalRun}
use Rattle.run_promise.specs.Progress.{Standing, unused, unknown, keeps, Progress, Ending, begun}
use Rattle.run_promise.specs.World.{World, remembered, with_files}

-- from such a beginning the run went by this course, to an end that the course may have
abbrev pub GoesBy : Course → (start : Progress) → Option Fault → World → World → Type 0
GoesBy course start fault old new =
    (ending : Ending) × (ending.fault ≡ fault) × Comes (remembered old) course start ending × Leaves start ending (remembered old) new

-- what a run may begin with: a disk that it does not look at before it makes a store on it; or a store of which nothing is known,
-- and which keeps a history where it does
abbrev pub Begins : Use → World → Progress → Type 0
Begins no_store old start = start ≡ begun unused 0
Begins new_store old start = start ≡ begun unused 0
Begins old_store old start =
    (start ≡ begun unknown 0) ⊎ ((kept : Kept) × IsKept old.disk kept × (start ≡ begun (keeps kept) kept.least))

-- a beginning of such a command
abbrev pub MayBegin : Use → Progress → Type 0
MayBegin no_store start = start ≡ begun unused 0
MayBegin new_store start = start ≡ begun unused 0
MayBegin old_store start = (store : Standing) × (cut : ℕ) × (start ≡ begun store cut)

-- the disk was not touched
pub record IsSpared (old new : DiskView) : Type 0 where
  pub content : new.content ≡ old.content
  pub moment : new.crashes.moment ≡ old.crashes.moment
  pub crash : NoneNew old.crashes new.crashes
  pub faults : new.faults ≡ old.faults
  pub reads : new.reads ≡ old.reads

-- no file was asked for but such
abbrev pub AsksOnly : (asks : List ℕ → Type 0) (named : ℕ → Type 0) → Type 0
AsksOnly asks named = (files : List ℕ) × asks files × AllByRecursion named files

-- a run of a command, in which the inputs were asked for these files
pub record Runs (command : CommandOf) (asks : List ℕ → Type 0) (old new : World) (fault : Option Fault) : Type 0 where
  -- the files as it has seen them, of which it may have read some before their turn
  pub seen : FilesView
  pub ahead : IsReadAhead (MayBeAhead command fault) seen new.files
  -- over these it goes by the course of the command
  pub course : (start : Progress) → Begins (use_of command) old start
      → GoesBy (course_of command) start fault old (with_files seen new)
  -- each fault has its cause
  pub cause : (own : Fault) → fault ≡ Some own → Cause command (remembered old) new own
  -- files that the command does not name are not asked for and not touched, and neither is the disk where it names no store
  pub asked : AsksOnly asks (Names command)
  pub unnamed : (file : ℕ) → ¬ Names command file → new.files.left file ≡ old.files.left file
  pub spared : use_of command ≡ no_store → IsSpared old.disk new.disk
  -- a disk that holds bytes where none should be is only looked at, and so is one that holds no store where one should be
  pub looked : use_of command ≢ old_store → IfTold old.disk.content (λ bytes. length bytes ≢ 0 → Stays old.disk new.disk)
  pub unformatted : fault ≡ Some NotFormatted → Stays old.disk new.disk
  -- an append reads no more of its store than the opening does and its changes touch
  pub local : IsLocalRun command old new fault
  -- a check tells that a store is sound where it is, and else a page that shows that it is not
  pub checked : IsCheckedRun command old fault
  -- a store that a check would find sound is never told to be damaged
  pub trusted : IsTrusted old.disk.content fault

-- words that are no command touch nothing
pub record IsWrongUse (asks : List ℕ → Type 0) (old new : World) (fault : Option Fault) : Type 0 where
  pub usage : fault ≡ Some Usage
  pub unasked : asks []
  pub files : (file : ℕ) → new.files.left file ≡ old.files.left file
  pub read_faults : new.files.faults ≡ old.files.faults
  pub disk : IsSpared old.disk new.disk
  pub output : new.output.taken ≡ old.output.taken
  pub write_faults : new.output.faults ≡ old.output.faults
