-- Change files that one thread reads while another appends what they hold.
use Rattle.std.specs.Prelude.{◌≡◌, ◌<◌, ◌≤◌, ◌+◌, ◌⊎◌, ℕ, List, length, true, false, Option, Some, None}
use Rattle.std.specs.List.{AllByRecursion}
use Rattle.osm_base.specs.bounds.Limits.{standard}
use Rattle.outside.specs.Inputs.{FilesView}
use Rattle.outside.specs.Sink.{SinkView}
use Rattle.change_pipe.specs.Files.{AreRead}
use Rattle.change_pipe.specs.Parcels.{IsWhole}
use Rattle.change_pipe.specs.declared.parcel.Parcel.{Parcel}
use Rattle.change_pipe.specs.declared.parcel.ParcelBody.{ParcelBody}
use Rattle.change_pipe.specs.declared.parcel.ParcelBody.TheVariants.{Whole, Refused}
use Rattle.tile_cover.specs.Table.{BoundsOf}
use Rattle.page_journal.specs.Crash.{IsAtRest}
use Rattle.update_flow.specs.Handle.{Handle, IsOpen, is_imported, is_old, view_of}
use Rattle.update_flow.specs.State.{Holding, imported}
use Rattle.run_promise.specs.declared.fault.Fault.{Fault}
use Rattle.run_promise.specs.Ahead.{IsOwnFault, IsReadAhead}
use Rattle.run_promise.specs.Courses.{appends, onward}
use Rattle.run_promise.specs.Files.{IsChange, fault_in}
use Rattle.run_promise.specs.Locality.{AppendsThere}
use Rattle.run_promise.specs.Progress.{Progress}
use Rattle.run_promise.specs.World.{Before}
use Rattle.updater.specs.FileReads.{Among, IsRead, IsUnread}
use Rattle.updater.specs.Heads.{IsHead, Leads}

-- changes may be appended: something was imported, in the format of today
pub record TakesChanges (store : Handle) : Type 0 where
  pub begun : is_imported store ≡ true
  pub current : is_old store ≡ false

-- that is so still, or the run ends by no fault of a file
abbrev pub TakesOrStops : Option Fault → Handle → Type 0
TakesOrStops None store = TakesChanges store
TakesOrStops (Some fault) store = IsOwnFault (Some fault)

-- what a file was read as is what became of it between two views of the files
abbrev pub HasBecome : (file : ℕ) → ParcelBody → FilesView → FilesView → Type 0
HasBecome file (Whole entries) old new = IsRead (IsChange file) file entries old new
HasBecome file (Refused fault) old new = IsUnread (IsChange file) file (fault_in file fault) old new

-- of files that are read from the first one on, those before the next one are seen as they are now, and all others as they were
pub record IsSeen (first next : ℕ) (own now seen : FilesView) : Type 0 where
  pub below : (file : ℕ) → file < first → seen.left file ≡ own.left file
  pub taken : (file : ℕ) → first ≤ file → file < next → seen.left file ≡ now.left file
  pub behind : (file : ℕ) → next ≤ file → seen.left file ≡ own.left file
  pub rises : own.faults ≤ seen.faults
  pub later : seen.faults ≤ now.faults

-- where the store is open and at rest, so many files from the first one on are appended, with no more reads of the disk than they cost
abbrev pub AppendsLocally : BoundsOf → (first count : ℕ) → FilesView → (before after : Handle) → Type 0
AppendsLocally bounds first count files before after = (held : Holding) (pages : List (List ℕ)) → IsOpen (imported held) before
    → IsAtRest pages (view_of before)
    → AppendsThere bounds held pages first count files (view_of before).reads (view_of after).reads

-- of so many files from the first one on these parcels were read, and the files are now as they were left
pub record AreTaken (first count : ℕ) (own now : FilesView) (parcels : List Parcel) : Type 0 where
  pub read : AreRead standard first (first + count) own now parcels
  pub later : own.faults ≤ now.faults

-- all of so many files were taken; or the run ended by no fault of a file, or by that of the last one taken
abbrev pub EndsBy : Option Fault → (count : ℕ) → List Parcel → Type 0
EndsBy None count parcels = length parcels ≡ count
EndsBy (Some fault) count parcels = IsOwnFault (Some fault) ⊎ ¬ AllByRecursion IsWhole parcels

-- Over the files as they are seen then, of which those before the next one were taken, the course leads on as by one who reads each file
-- in its turn.
abbrev pub SeesAhead : BoundsOf → (first count next : ℕ) → Option Fault → (own now : FilesView) → (before after : Handle)
    → (output told : SinkView) → Type 0
SeesAhead bounds first count next fault own now before after output told = (seen : FilesView) × IsSeen first next own now seen
    × ((old : Before) (start done : Progress) (held : Holding) → IsHead start done (imported held) first old own before output
    → Leads (λ last. appends bounds held first count (onward last)) fault start done (first + count) old seen after told)

-- Of so many change files these were taken and appended.
pub record AppendsTaken (bounds : BoundsOf) (first count : ℕ) (fault : Option Fault) (parcels : List Parcel) (before after : Handle)
    (output told : SinkView) : Type 0 where
  pub leads : (own now : FilesView) → AreTaken first count own now parcels
      → SeesAhead bounds first count (first + length parcels) fault own now before after output told
  pub local : fault ≡ None →
      (own now : FilesView) → AreTaken first count own now parcels → AppendsLocally bounds first count own before after
  pub ends : EndsBy fault count parcels

-- From the head of a turn on, so many change files are appended, of which so many are read ahead. Of those whose turn never came some
-- may be read, unless a file was refused.
pub record AppendsAhead (bounds : BoundsOf) (first count ahead : ℕ) (fault : Option Fault) (own now : FilesView) (before after : Handle)
    (output told : SinkView) : Type 0 where
  pub seen : FilesView
  pub read : IsReadAhead (λ file. (0 < ahead) × IsOwnFault fault × Among first count file) seen now
  pub leads : (old : Before) (start done : Progress) (held : Holding) → IsHead start done (imported held) first old own before output
      → Leads (λ last. appends bounds held first count (onward last)) fault start done (first + count) old seen after told
