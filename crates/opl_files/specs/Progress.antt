-- How far a file was read, and what is left of it.
-- A file is judged line by line, and the first line with a fault decides (`first_fault`). What was passed stands for the lines before,
-- of which no more is needed than how many they are, how many entries they have, and the last key. So at each moment the whole file
-- comes to what is left of it, behind what was passed (`HasRead`); at the start all is left, and at the end nothing.
use Rattle.std.specs.Prelude.{◌≡◌, ◌≤◌, ℕ, ◌+◌, List, [], ◌∷◌, ◌++◌, Bool, false, Option, None, Some, Result, Ok, Err, IfSome}
use Rattle.std.specs.List.{cons_option}
use Rattle.std.specs.Option.{option_len}
use Rattle.osm_base.specs.declared.bounds.limits.LimitNumbers.{LimitNumbers}
use Rattle.osm_base.specs.declared.values.object.Entry.{Entry}
use Rattle.osm_base.specs.values.Key.{KeyOf}
use Rattle.opl_lines.specs.Lines.{lines_of}
use Rattle.opl_lines.specs.Reading.{begun, KeepsLimits}
use Rattle.outside.specs.Bytes.{BothKnown}
use Rattle.opl_files.specs.declared.fault.FileFault.{FileFault}
use Rattle.opl_files.specs.declared.passed.Passed.{Passed}
use Rattle.opl_files.specs.declared.progress.Progress.{Progress}
use Rattle.opl_files.specs.Entries.{unless, entries_of}
use Rattle.opl_files.specs.Keeps.{kept_all}
use Rattle.opl_files.specs.Passed.{spelled, line_fault}
use Rattle.object_fold.specs.Keeps.{TakesNext}

-- the key of an entry, if there is one, and else this one
abbrev pub last_of : Option KeyOf → Option Entry → Option KeyOf
last_of last None = last
last_of last (Some entry) = Some entry.key

-- with one line more, which spells this
abbrev pub passed_line : Passed → Option Entry → Passed
passed_line passed entry = record {
  lines = passed.lines + 1;
  entries = passed.entries + option_len entry;
  last =
      last_of passed.last entry;
}

-- an entry in front of others
abbrev pub in_front : Option Entry → Result (List Entry) FileFault → Result (List Entry) FileFault
in_front entry (Ok entries) = Ok (cons_option entry entries)
in_front entry (Err fault) = Err fault

-- what the lines that are left come to, behind those that were passed
unfoldable pub entries_from : LimitNumbers → Passed → List (List ℕ) → Result (List Entry) FileFault
entries_from limits passed [] = Ok []
entries_from limits passed (line ∷ lines) =
    unless (line_fault limits passed line) (in_front (spelled line) (entries_from limits (passed_line passed (spelled line)) lines))

-- what the file comes to from here on, where these bytes are left
abbrev pub entries_left : LimitNumbers → Progress → List ℕ → Result (List Entry) FileFault
entries_left limits progress later = entries_from limits progress.passed (lines_of (begun progress.reader ++ later))

-- the reader keeps the limits, and has met none of them
pub record IsReady (limits : LimitNumbers) (progress : Progress) : Type 0 where
  pub line_bytes : progress.reader.line_bytes ≡ limits.line_bytes
  pub lines : progress.reader.lines ≡ limits.lines
  pub counted : progress.passed.lines ≡ progress.reader.number
  pub within : progress.reader.number ≤ limits.lines
  pub entries : progress.passed.entries ≤ limits.entries
  pub no_fault : progress.reader.failed ≡ None
  pub keeps : KeepsLimits progress.reader

-- the reader is ready, and one who is given the entries may be given each that comes next
pub record IsReadyFor {K : Type 0} (takes : K → KeyOf → Type 0) (limits : LimitNumbers) (progress : Progress) (keeper : K) : Type 0 where
  pub ready : IsReady limits progress
  pub next : TakesNext takes progress.passed.last keeper

-- from the front of the bytes some were read: whatever follows them, they and it come to what it comes to now
pub record Reads {K : Type 0} (after : K → Entry → K) (limits : LimitNumbers) (whole : List ℕ → Result (List Entry) FileFault) (before : K)
    (progress : Progress) (now : K)
    (bytes later : List ℕ) : Type 0 where
  pub front : List ℕ
  pub parts : bytes ≡ front ++ later
  pub same : (rest : List ℕ) → kept_all after before (whole (front ++ rest)) ≡ kept_all after now (entries_left limits progress rest)

-- so far was read since the start of the file
abbrev pub HasRead : {K : Type 0} → (K → Entry → K) → LimitNumbers → K → Progress → K → Option (List ℕ) → Option (List ℕ) → Type 0
HasRead after limits before progress now left rest =
    BothKnown left rest (λ bytes later. Reads after limits (entries_of limits) before progress now bytes later)

-- so far by one read
abbrev pub ReadsPiece : {K : Type 0} → (K → Entry → K) → LimitNumbers → Progress → K → Progress → K → Option (List ℕ) → Option (List ℕ)
    → Type 0
ReadsPiece after limits old before new now left rest =
    BothKnown left rest (λ bytes later. Reads after limits (entries_left limits old) before new now bytes later)

-- one read, and what was made of it: what is left makes the same of the keeper as what was left, and at the end of the file none is
abbrev pub ReadsOn : {K : Type 0} → (K → Entry → K) → LimitNumbers → Progress → K → Progress → K → Bool → Option (List ℕ) → Option (List ℕ)
    → Type 0
ReadsOn after limits old before new now more left rest =
    BothKnown left rest (λ bytes later. (kept_all after before (entries_left limits old bytes)
    ≡ kept_all after now (entries_left limits new later))
    × (more ≡ false → later ≡ []))

-- this is the fault of a file of which these bytes are left
abbrev pub IsKeptFault : {K : Type 0} → (K → Entry → K) → LimitNumbers → Progress → K → Option (List ℕ) → FileFault → Type 0
IsKeptFault after limits progress keeper left fault =
    IfSome left (λ bytes. kept_all after keeper (entries_left limits progress bytes) ≡ Err fault)
