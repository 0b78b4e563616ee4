-- What a parcel says of the file that it is of, and a list of parcels of files that follow each other.
use Rattle.std.specs.Prelude.{◌≡◌, ◌≢◌, ◌⊎◌, ℕ, ◌+◌, List, [], ◌∷◌, Option, Some, Ok}
use Rattle.osm_base.specs.declared.bounds.limits.LimitNumbers.{LimitNumbers}
use Rattle.outside.specs.Bytes.{BothKnown, IfTold}
use Rattle.outside.specs.Causes.{Rose}
use Rattle.outside.specs.Inputs.{FilesView}
use Rattle.opl_files.specs.Entries.{entries_of}
use Rattle.opl_files.specs.Reading.{IsFaultOf}
use Rattle.opl_files.specs.Stops.{Stops}
use Rattle.opl_files.specs.declared.fault.FileFault.TheVariants as faults
use Rattle.change_pipe.specs.declared.parcel.Parcel.{Parcel}
use Rattle.change_pipe.specs.declared.parcel.ParcelBody.{ParcelBody}
use Rattle.change_pipe.specs.declared.parcel.ParcelBody.TheVariants.{Whole, Refused}

-- its file was accepted
abbrev pub IsWholeBody : ParcelBody → Type 0
IsWholeBody (Whole entries) = Unit {0}
IsWholeBody (Refused fault) = ⊥

abbrev pub IsWhole : Parcel → Type 0
IsWhole parcel = IsWholeBody parcel.body

-- a read of its file failed
abbrev pub IsReadFault : ParcelBody → Type 0
IsReadFault (Refused faults.ReadFault) = Unit {0}
IsReadFault _ = ⊥

-- that of one of these did
abbrev pub HasFailed : List Parcel → Type 0
HasFailed [] = ⊥
HasFailed (parcel ∷ parcels) = IsReadFault parcel.body ⊎ HasFailed parcels

-- a file of which these bytes are left is read as this: its entries, or the fault that it has. That a read failed, or that memory ran out,
-- the bytes do not tell
abbrev pub IsReadAs : LimitNumbers → Option (List ℕ) → ParcelBody → Type 0
IsReadAs limits left (Whole entries) = IfTold left (λ bytes. entries_of limits bytes ≡ Ok entries)
IsReadAs limits left (Refused fault) = Stops (IsFaultOf limits left) (Unit {0}) fault

-- a file that was accepted was read to its end
abbrev pub IsAtEnd : (old new : FilesView) → Parcel → Type 0
IsAtEnd old new parcel = IsWhole parcel → BothKnown (old.left parcel.file) (new.left parcel.file) (λ bytes later. later ≡ [])

-- what a file was read as. It is at its end where it was accepted, and where it was there before; and the count of faults rose where a
-- read failed
pub record IsParcelOf (limits : LimitNumbers) (file : ℕ) (old new : FilesView) (parcel : Parcel) : Type 0 where
  pub number : parcel.file ≡ file
  pub body : IsReadAs limits (old.left file) parcel.body
  pub at_end : IsAtEnd old new parcel
  pub ended : old.left file ≡ Some [] → new.left file ≡ Some []
  pub rose : IsReadFault parcel.body → Rose old.faults new.faults

-- these are parcels of the files from this one on, in their order, and none is behind one that was refused
abbrev pub AreParcels : LimitNumbers → FilesView → (file : ℕ) → List Parcel → Type 0
AreParcels limits files file [] = Unit {0}
AreParcels limits files file (parcel ∷ parcels) = (parcel.file ≡ file) × IsReadAs limits (files.left file) parcel.body
    × (parcels ≢ [] → IsWhole parcel) × AreParcels limits files (file + 1) parcels
