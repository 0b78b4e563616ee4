-- Lines of a file that are read apart from those before them, and put behind them then.
-- Lines that have no fault where nothing stands before them have the same entries behind others, where the first key comes after the
-- last one there and both numbers keep their limits. So of lines that are read apart no more is ever said than that they have no fault.
use Rattle.std.specs.Prelude.{◌≡◌, ◌≤◌, ℕ, ◌+◌, List, [], ◌∷◌, ◌++◌, length, take, drop, None, Result, Ok, Err}
use Rattle.std.specs.Option.{option_or}
use Rattle.osm_base.specs.declared.bounds.limits.LimitNumbers.{LimitNumbers}
use Rattle.osm_base.specs.declared.values.object.Entry.{Entry}
use Rattle.osm_base.specs.values.Key.{KeyOf}
use Rattle.opl_lines.specs.Lines.{lines_of}
use Rattle.opl_files.specs.declared.fault.FileFault.{FileFault}
use Rattle.opl_files.specs.declared.parts.Part.{Part}
use Rattle.opl_files.specs.declared.parts.Share.{Share}
use Rattle.opl_files.specs.declared.passed.Passed.{Passed}
use Rattle.object_fold.specs.Change.{last_key}
use Rattle.opl_files.specs.Keeps.{kept_all}
use Rattle.opl_files.specs.Passed.{spelled}
use Rattle.opl_files.specs.Progress.{entries_from, passed_line}
use Rattle.object_fold.specs.Keeps.{TakesNext}

-- nothing stands before them
abbrev pub none_passed : Passed
none_passed = record { lines = 0; entries = 0; last = None }

-- what stands before a line that has its own lines before it, and before those these others
abbrev pub behind : Passed → Passed → Passed
behind before own = record {
  lines = before.lines + own.lines;
  entries = before.entries + own.entries;
  last = option_or own.last before.last;
}

-- with all of these lines
abbrev pub passed_all : Passed → List (List ℕ) → Passed
passed_all passed [] = passed
passed_all passed (line ∷ lines) = passed_all (passed_line passed (spelled line)) lines

-- entries in front of others
abbrev pub in_front_all : List Entry → Result (List Entry) FileFault → Result (List Entry) FileFault
in_front_all entries (Ok more) = Ok (entries ++ more)
in_front_all entries (Err fault) = Err fault

-- these bytes are whole lines, which read apart from all before them as this part
pub record IsPart (limits : LimitNumbers) (bytes : List ℕ) (part : Part) : Type 0 where
  pub own : List (List ℕ)
  pub whole : (later : List ℕ) → lines_of (bytes ++ later) ≡ own ++ lines_of later
  pub read : (more : List (List ℕ)) → entries_from limits none_passed (own ++ more)
      ≡ in_front_all part.change (entries_from limits part.passed more)
  pub passed_are : passed_all none_passed own ≡ part.passed
  pub last : part.passed.last ≡ last_key None part.change

-- the lines keep the limits of a file, and one who is given the entries may be given each that comes next
pub record GoesOn {K : Type 0} (takes : K → KeyOf → Type 0) (limits : LimitNumbers) (passed : Passed) (keeper : K) : Type 0 where
  pub lines : passed.lines ≤ limits.lines
  pub entries : passed.entries ≤ limits.entries
  pub next : TakesNext takes passed.last keeper

-- what is made of a keeper by a file that has these lines, whose entries it was given, and behind them these bytes
abbrev pub keeps_to : {K : Type 0} → (K → Entry → K) → LimitNumbers → Passed → K → List ℕ → Result K FileFault
keeps_to after limits passed keeper bytes = kept_all after keeper (entries_from limits passed (lines_of bytes))

-- more lines were taken of the bytes behind these lines, so that the rest is left: whatever comes later, the same is made of the keeper
abbrev pub TakesLines : {K : Type 0} → (K → Entry → K) → LimitNumbers → Passed → K → List ℕ → Passed → K → List ℕ → Type 0
TakesLines after limits old before bytes new now rest =
    (later : List ℕ) → keeps_to after limits old before (bytes ++ later) ≡ keeps_to after limits new now (rest ++ later)

-- the share is whole lines at the front of this piece
abbrev pub IsShareOf : LimitNumbers → List ℕ → Share → Type 0
IsShareOf limits piece share = (share.len ≤ length piece) × IsPart limits (take share.len piece) share.part

-- the shares are whole lines of these bytes, each where the one before it ends
abbrev pub AreShares : LimitNumbers → List ℕ → List Share → Type 0
AreShares limits bytes [] = Unit {0}
AreShares limits bytes (share ∷ more) =
    (share.len ≤ length bytes) × IsPart limits (take share.len bytes) share.part × AreShares limits (drop share.len bytes) more

-- how many bytes these shares have
abbrev pub bytes_in : List Share → ℕ
bytes_in [] = 0
bytes_in (share ∷ more) = share.len + bytes_in more
