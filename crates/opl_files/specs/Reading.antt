-- What reading a file comes to: `entries_of` its bytes, or its first fault, and how far it was read.
use Rattle.std.specs.Prelude.{◌≡◌, ◌≤◌, List, [], ◌++◌, ℕ, length, Option, Ok, Err, IfSome}
use Rattle.osm_base.specs.declared.bounds.limits.LimitNumbers.{LimitNumbers}
use Rattle.osm_base.specs.declared.values.object.Entry.{Entry}
use Rattle.outside.specs.Bytes.{BothKnown}
use Rattle.opl_files.specs.declared.fault.FileFault.{FileFault}
use Rattle.opl_files.specs.declared.scan.TheConstants.{PIECE}
use Rattle.opl_files.specs.Entries.{entries_of}
use Rattle.opl_files.specs.Keeps.{kept_all}

-- the whole file was read, to its end, and this is made of the keeper
abbrev pub ReadsAll : {K : Type 0} → (K → Entry → K) → LimitNumbers → K → K → Option (List ℕ) → Option (List ℕ) → Type 0
ReadsAll after limits before now left rest =
    BothKnown left rest (λ bytes later. (kept_all after before (entries_of limits bytes) ≡ Ok now) × (later ≡ []))

-- the whole file was read, to its end, and these are its entries
abbrev pub HasEntries : LimitNumbers → List Entry → Option (List ℕ) → Option (List ℕ) → Type 0
HasEntries limits entries left rest = BothKnown left rest (λ bytes later. (entries_of limits bytes ≡ Ok entries) × (later ≡ []))

-- this is the fault of a file with these bytes, where they are told
abbrev pub IsFaultOf : LimitNumbers → Option (List ℕ) → FileFault → Type 0
IsFaultOf limits left fault = IfSome left (λ bytes. entries_of limits bytes ≡ Err fault)

-- no fault is certain yet: none is that of every file that begins with these bytes
abbrev pub LeavesOpen : LimitNumbers → List ℕ → Type 0
LeavesOpen limits bytes = (fault : FileFault) → ((later : List ℕ) → entries_of limits (bytes ++ later) ≡ Err fault) → ⊥

-- of these bytes those that come later were not read: one read at most was made behind bytes that left each fault open
pub record StopsInTime (limits : LimitNumbers) (bytes later : List ℕ) : Type 0 where
  pub before : List ℕ
  pub last : List ℕ
  pub parts : bytes ≡ before ++ (last ++ later)
  pub undecided : LeavesOpen limits before
  pub one_read : length last ≤ PIECE

-- the file was read no further than to the read that made its fault certain
abbrev pub ReadsNoFurther : LimitNumbers → Option (List ℕ) → Option (List ℕ) → Type 0
ReadsNoFurther limits left rest = BothKnown left rest (λ bytes later. StopsInTime limits bytes later)

-- at most so many bytes were read
abbrev pub ReadsAtMost : ℕ → Option (List ℕ) → Option (List ℕ) → Type 0
ReadsAtMost count left rest = BothKnown left rest (λ bytes later. (piece : List ℕ) × (bytes ≡ piece ++ later) × (length piece ≤ count))
