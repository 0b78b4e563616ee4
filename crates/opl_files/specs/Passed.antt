-- What a line says in its place in a file, and the first fault that it has there.
-- osmium manual, "OPL File Format": one object a line. osm2pgsql manual: objects come by kind and by rising id.
use Rattle.std.specs.Prelude.{ℕ, ◌+◌, List, length, nat_lt, nat_le, if◌then◌else◌, Option, None, Some, Result, Ok, Err}
use Rattle.std.specs.Option.{option_or}
use Rattle.std.specs.List.{filter_map}
use Rattle.osm_base.specs.declared.bounds.limits.LimitNumbers.{LimitNumbers}
use Rattle.osm_base.specs.declared.bounds.limits.LimitKind.TheVariants.{LineBytes, FileLines, FileEntries}
use Rattle.osm_base.specs.declared.values.object.Entry.{Entry}
use Rattle.osm_base.specs.values.Key.{KeyOf}
use Rattle.osm_base.specs.values.KeyOrder.{is_below}
use Rattle.opl_object.specs.declared.why.Why.{Why}
use Rattle.opl_object.specs.declared.why.Why.TheVariants.{Order}
use Rattle.opl_object.specs.Line.{reading}
use Rattle.opl_files.specs.declared.fault.FileFault.{FileFault}
use Rattle.opl_files.specs.declared.fault.FileFault.TheVariants.{Malformed, Limit}
use Rattle.opl_files.specs.declared.passed.Passed.{Passed}
use Rattle.object_fold.specs.Change.{last_key}

-- the entry that a line spells, where it has one
abbrev pub entry_in : Result (Option Entry) Why → Option Entry
entry_in (Ok entry) = entry
entry_in (Err why) = None

abbrev pub spelled : List ℕ → Option Entry
spelled line = entry_in (reading line)

-- the entries that lines spell, in order
abbrev pub spelled_by : List (List ℕ) → List Entry
spelled_by lines = filter_map spelled lines

-- how many lines these are, how many entries they spell, and the key of the last
unfoldable pub passed_by : List (List ℕ) → Passed
passed_by lines = record { lines = length lines; entries = length (spelled_by lines); last = last_key None (spelled_by lines) }

-- a key that does not come after the last one, in the line after these
abbrev pub order_fault : ℕ → Option KeyOf → KeyOf → Option FileFault
order_fault lines None key = None
order_fault lines (Some earlier) key = if is_below earlier key then None else Some (Malformed (lines + 1) (Order earlier key))

-- an entry more than a file may have
abbrev pub count_fault : LimitNumbers → ℕ → Option FileFault
count_fault limits entries = if nat_lt entries limits.entries then None else Some (Limit FileEntries (limits.entries + 1))

-- the first fault of an entry with this key in the line after these
abbrev pub entry_fault : LimitNumbers → Passed → KeyOf → Option FileFault
entry_fault limits passed key = option_or (order_fault passed.lines passed.last key) (count_fault limits passed.entries)

-- the first fault of the line after these, which reads so
abbrev pub said_fault : LimitNumbers → Passed → Result (Option Entry) Why → Option FileFault
said_fault limits passed (Err why) = Some (Malformed (passed.lines + 1) why)
said_fault limits passed (Ok None) = None
said_fault limits passed (Ok (Some entry)) = entry_fault limits passed entry.key

-- the first fault of the line after these, where it keeps the limits of a line
unfoldable pub text_fault : LimitNumbers → Passed → List ℕ → Option FileFault
text_fault limits passed line = said_fault limits passed (reading line)

-- the first fault of the line after these: it is one too many, it is too long, it is not read, its key does not come after the last
-- one, or it has an entry too many
unfoldable pub line_fault : LimitNumbers → Passed → List ℕ → Option FileFault
line_fault limits passed line =
    if nat_lt passed.lines limits.lines
    then (if nat_le (length line) limits.line_bytes then text_fault limits passed line else Some (Limit LineBytes (limits.line_bytes + 1)))
    else Some (Limit FileLines (limits.lines + 1))
