-- The entries of a file, or the first fault that one of its lines has.
use Rattle.std.specs.Prelude.{◌≡◌, ◌≤◌, ℕ, List, [], ◌∷◌, ◌++◌, length, Option, None, Some, Result, Ok, Err, IsOk}
use Rattle.std.specs.List.{AllByRecursion}
use Rattle.std.specs.Option.{option_or}
use Rattle.osm_base.specs.declared.bounds.limits.LimitNumbers.{LimitNumbers}
use Rattle.osm_base.specs.declared.values.object.Entry.{Entry}
use Rattle.opl_lines.specs.Lines.{lines_of}
use Rattle.opl_object.specs.Line.{reading}
use Rattle.object_fold.specs.Change.{IsChange}
use Rattle.opl_files.specs.declared.fault.FileFault.{FileFault}
use Rattle.opl_files.specs.Passed.{spelled_by, passed_by, line_fault}

-- the fault of the first of these lines that has one, each judged by all the lines before it
unfoldable pub first_fault : LimitNumbers → List (List ℕ) → List (List ℕ) → Option FileFault
first_fault limits before [] = None
first_fault limits before (line ∷ lines) =
    option_or (line_fault limits (passed_by before) line) (first_fault limits (before ++ line ∷ []) lines)

-- this, unless there is a fault
abbrev pub unless : {A : Type 0} → Option FileFault → Result A FileFault → Result A FileFault
unless None value = value
unless (Some fault) value = Err fault

-- the entries of a file with these bytes, or the first fault
unfoldable pub entries_of : LimitNumbers → List ℕ → Result (List Entry) FileFault
entries_of limits bytes = unless (first_fault limits [] (lines_of bytes)) (Ok (spelled_by (lines_of bytes)))

-- a file with these bytes is accepted, and these are its entries: its lines are no more and no longer than they may be, each is read, the
-- entries are those that they spell, in order, no more than they may be, each is proper, and their keys rise
pub record IsAccepted (limits : LimitNumbers) (bytes : List ℕ) (entries : List Entry) : Type 0 where
  pub lines : length (lines_of bytes) ≤ limits.lines
  pub line_bytes : AllByRecursion (λ line. length line ≤ limits.line_bytes) (lines_of bytes)
  pub read : AllByRecursion (λ line. IsOk (reading line)) (lines_of bytes)
  pub spelled : entries ≡ spelled_by (lines_of bytes)
  pub counted : length entries ≤ limits.entries
  pub rise : IsChange entries
