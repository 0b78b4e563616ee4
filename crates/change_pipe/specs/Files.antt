-- What became of files that were read one after another.
use Rattle.std.specs.Prelude.{◌≡◌, ◌<◌, ◌≤◌, ◌⊎◌, ℕ, ◌+◌, List, [], length, Some}
use Rattle.std.specs.List.{AllByRecursion}
use Rattle.osm_base.specs.declared.bounds.limits.LimitNumbers.{LimitNumbers}
use Rattle.outside.specs.Causes.{Rose}
use Rattle.outside.specs.Inputs.{FilesView}
use Rattle.change_pipe.specs.declared.files.ChangeFiles.{ChangeFiles}
use Rattle.change_pipe.specs.declared.parcel.Parcel.{Parcel}
use Rattle.change_pipe.specs.Parcels.{AreParcels, HasFailed, IsAtEnd, IsWhole}

-- the files from the first one to before the end
abbrev pub Between : (first end file : ℕ) → Type 0
Between first end file = (first ≤ file) × (file < end)

-- no others
abbrev pub Beside : (first end file : ℕ) → Type 0
Beside first end file = (file < first) ⊎ (end ≤ file)

-- these are the parcels of files from the first one on, of no more than to the end. Those that were accepted are at their end, where a
-- read failed the count of faults rose, and behind one that was refused no file was touched
pub record AreRead (limits : LimitNumbers) (first end : ℕ) (old new : FilesView) (parcels : List Parcel) : Type 0 where
  pub are : AreParcels limits old first parcels
  pub few : first + length parcels ≤ end
  pub at_end : AllByRecursion (IsAtEnd old new) parcels
  pub rose : HasFailed parcels → Rose old.faults new.faults
  pub last : ¬ AllByRecursion IsWhole parcels → (other : ℕ) → first + length parcels ≤ other → new.left other ≡ old.left other

-- no files but these were asked for or touched, a file that was at its end stays there, and the count of faults did not fall
pub record ReadsAmong (first end : ℕ) (asks : List ℕ → Type 0) (old new : FilesView) : Type 0 where
  pub asked : (files : List ℕ) × asks files × AllByRecursion (Between first end) files
  pub others : (other : ℕ) → Beside first end other → new.left other ≡ old.left other
  pub ended : (file : ℕ) → old.left file ≡ Some [] → new.left file ≡ Some []
  pub later : old.faults ≤ new.faults

-- there is one of each of so many files, unless one was refused
abbrev pub HasAll : (count : ℕ) → List Parcel → Type 0
HasAll count parcels = AllByRecursion IsWhole parcels → length parcels ≡ count

-- these files were read, up to the first that is refused; the parcels, of which so much is told where there are some, are theirs
pub record ReadsFiles (limits : LimitNumbers) (files : ChangeFiles) (told : (List Parcel → Type 0) → Type 0) (asks : List ℕ → Type 0)
    (old new : FilesView) : Type 0 where
  pub parcels : told (AreRead limits files.first (files.first + files.count) old new)
  pub all : told (HasAll files.count)
  pub read : ReadsAmong files.first (files.first + files.count) asks old new
