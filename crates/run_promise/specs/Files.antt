-- What the bytes of the files of a command are read as, and their faults as those of a run. A file is numbered by the place of its
-- word.
use Rattle.std.specs.Prelude.{◌≡◌, ◌≤◌, ◌<◌, ◌+◌, ℕ, List, length, map, Result, Ok, Err}
use Rattle.osm_base.specs.bounds.Limits.{standard}
use Rattle.osm_base.specs.declared.values.object.Entry.{Entry}
use Rattle.opl_files.specs.Entries.{entries_of}
use Rattle.opl_files.specs.declared.fault.FileFault.{FileFault}
use Rattle.opl_files.specs.declared.fault.FileFault.TheVariants as file_faults
use Rattle.opl_files.specs.declared.whole.WholeFault.{WholeFault}
use Rattle.opl_files.specs.declared.whole.WholeFault.TheVariants as wholes
use Rattle.map_query.specs.Line.{query_of}
use Rattle.map_query.specs.Reading.{IsFirstBad}
use Rattle.map_query.specs.declared.fault.QueryFault.{QueryFault}
use Rattle.map_query.specs.declared.fault.QueryFault.TheVariants as queries
use Rattle.map_query.specs.declared.query.Query.{Query}
use Rattle.opl_lines.specs.Lines.{lines_of}
use Rattle.osm_base.specs.declared.bounds.limits.LimitKind.{LimitKind}
use Rattle.osm_base.specs.declared.bounds.limits.LimitKind.TheVariants.{StyleBytes, BoundsBytes, QueryBytes}
use Rattle.style_read.specs.Reading.{reading}
use Rattle.style_read.specs.Style.{StyleOf}
use Rattle.style_read.specs.declared.fault.StyleFault.{StyleFault}
use Rattle.style_read.specs.declared.fault.StyleFault.TheVariants as styles
use Rattle.tile_cover.specs.Boundaries.{IsBadLine, IsTableOf, lats_of}
use Rattle.tile_cover.specs.Table.{BoundsOf}
use Rattle.tile_cover.specs.declared.fault.BoundsFault.{BoundsFault}
use Rattle.tile_cover.specs.declared.fault.BoundsFault.TheVariants as bounds
use Rattle.run_promise.specs.declared.files.TheConstants.{MAX_WHOLE}
use Rattle.run_promise.specs.declared.fault.Fault.{Fault}
use Rattle.run_promise.specs.declared.fault.Fault.TheVariants.{Malformed, BadStyle, BadBounds, BadQuery, Limit, ReadFault, OutOfMemory}

-- the fault of a file, as that of a run
abbrev pub fault_in : ℕ → FileFault → Fault
fault_in file (file_faults.Malformed line why) = Malformed file line why
fault_in file (file_faults.Limit which value) = Limit which value
fault_in file file_faults.ReadFault = ReadFault file
fault_in file file_faults.OutOfMemory = OutOfMemory

-- entries, or the fault of their file
abbrev pub of_file : ℕ → Result (List Entry) FileFault → Result (List Entry) Fault
of_file file (Ok entries) = Ok entries
of_file file (Err fault) = Err (fault_in file fault)

-- the entries of a file with these bytes, or its fault
abbrev pub change_in : (file : ℕ) → List ℕ → Result (List Entry) Fault
change_in file bytes = of_file file (entries_of standard bytes)

-- a file with these bytes is read as such entries, or has such a fault
abbrev pub IsChange : (file : ℕ) → List ℕ → Result (List Entry) Fault → Type 0
IsChange file bytes found = change_in file bytes ≡ found

-- a file with these bytes is read as such a style with its bytes, or has such a fault
abbrev pub IsStyle : (file : ℕ) → List ℕ → Result (StyleOf × List ℕ) Fault → Type 0
IsStyle file bytes (Ok found) = (length bytes ≤ MAX_WHOLE) × (found.1 ≡ bytes) × (reading bytes ≡ Ok found.0)
IsStyle file bytes (Err (BadStyle own why part)) = (length bytes ≤ MAX_WHOLE) × (own ≡ file) × (reading bytes ≡ Err (why, part))
IsStyle file bytes (Err (Limit StyleBytes value)) = (MAX_WHOLE < length bytes) × (value ≡ MAX_WHOLE + 1)
IsStyle file bytes (Err _) = ⊥

-- a file with these bytes is read as such boundaries, or has such a fault
abbrev pub IsBounds : (file : ℕ) → List ℕ → Result BoundsOf Fault → Type 0
IsBounds file bytes (Ok found) = (length bytes ≤ MAX_WHOLE) × IsTableOf (lines_of bytes) found.zoom
    × (found.lats ≡ lats_of (lines_of bytes))
IsBounds file bytes (Err (BadBounds own line)) = (length bytes ≤ MAX_WHOLE) × (own ≡ file) × IsBadLine (lines_of bytes) line
IsBounds file bytes (Err (Limit BoundsBytes value)) = (MAX_WHOLE < length bytes) × (value ≡ MAX_WHOLE + 1)
IsBounds file bytes (Err _) = ⊥

-- a file with these bytes is read as such queries of tables under this style, or has such a fault
abbrev pub IsQueries : StyleOf → (file : ℕ) → List ℕ → Result (List Query) Fault → Type 0
IsQueries style file bytes (Ok found) = (length bytes ≤ MAX_WHOLE) × (map Ok found ≡ map (query_of style) (lines_of bytes))
IsQueries style file bytes (Err (BadQuery own line why)) =
    (length bytes ≤ MAX_WHOLE) × (own ≡ file) × IsFirstBad style (lines_of bytes) line why
IsQueries style file bytes (Err (Limit QueryBytes value)) = (MAX_WHOLE < length bytes) × (value ≡ MAX_WHOLE + 1)
IsQueries style file bytes (Err _) = ⊥

-- the fault of a file that is read whole, as that of a run
abbrev pub whole_fault : ℕ → LimitKind → WholeFault → Fault
whole_fault file which wholes.TooLong = Limit which (MAX_WHOLE + 1)
whole_fault file which wholes.ReadFault = ReadFault file
whole_fault file which wholes.OutOfMemory = OutOfMemory

-- and that of a style, of boundaries, and of queries
abbrev pub style_fault : ℕ → StyleFault → Fault
style_fault file (styles.Bad why part) = BadStyle file why part
style_fault file styles.OutOfMemory = OutOfMemory

abbrev pub bounds_fault : ℕ → BoundsFault → Fault
bounds_fault file (bounds.Bad line) = BadBounds file line
bounds_fault file bounds.OutOfMemory = OutOfMemory

abbrev pub query_fault : ℕ → QueryFault → Fault
query_fault file (queries.Bad line why) = BadQuery file line why
query_fault file queries.OutOfMemory = OutOfMemory
