-- The commands: what each does, in order.
use Rattle.std.specs.Prelude.{◌≡◌, ℕ, zero, suc, ◌+◌, ◌-◌, Bool, true, false, List, [], ◌∷◌, ◌++◌, Option, Some, None, codes}
use Rattle.std.specs.Prelude.{encode_utf8_all, flat_map, length, slice_get, sum_by}
use Rattle.std.specs.Fmt.{decimal}
use Rattle.std.specs.List.{range_with_len}
use Rattle.std.specs.Option.{option_map_or}
use Rattle.osm_base.specs.declared.values.object.Entry.{Entry}
use Rattle.osm_base.specs.declared.values.row.Delta.{Delta}
use Rattle.osm_base.specs.map.Spots.{TableMap}
use Rattle.demo_map.specs.Demo.{demo_first, demo_input, demo_second}
use Rattle.demo_map.specs.Style.{DEMO_STYLE, demo_bounds, demo_style}
use Rattle.delta_feed.specs.Text.{delta_text, full_text}
use Rattle.due_tiles.specs.TileText.{tile_text}
use Rattle.row_rules.specs.Row.{tables}
use Rattle.row_text.specs.Numbered.{rows_of}
use Rattle.row_text.specs.Table.{table_text}
use Rattle.style_read.specs.Style.{StyleOf, table_of}
use Rattle.style_read.specs.declared.style.TableDef.{TableDef}
use Rattle.tile_cover.specs.Runs.{IsTileSet, has}
use Rattle.tile_cover.specs.Table.{BoundsOf}
use Rattle.tile_cover.specs.declared.runs.Run.{Run}
use Rattle.update_flow.specs.Changes.{IsDeltaOf}
use Rattle.update_flow.specs.Due.{Tiles}
use Rattle.update_flow.specs.State.{Following, Holding, State, formatted, imported, outdated, following, Import, Append, Clear, Migrate}
use Rattle.update_flow.specs.State.{fresh, changed}
use Rattle.run_promise.specs.declared.fault.Fault.TheVariants.{AlreadyImported, Follower, NotImported, OldFormat, UnknownTable}
use Rattle.run_promise.specs.declared.files.Files.{Files}
use Rattle.run_promise.specs.CommandOf.{CommandOf, points_of, lines_of, init_of, import_of, append_of, export_of, tiles_of, query_of}
use Rattle.run_promise.specs.CommandOf.{feed_of, follow_of, serve_of, replay_of, migrate_of, check_of, demo_of}
use Rattle.run_promise.specs.Course.{Course, ends, refuses, reads, wants_empty, formats, opens, looks, commits, tells, writes, writes_text}
use Rattle.run_promise.specs.Course.{feeds, follows}
use Rattle.run_promise.specs.Answers.{answers_text}
use Rattle.run_promise.specs.Blocks.{AreBlocks}
use Rattle.map_query.specs.declared.query.Query.{Query}
use Rattle.run_promise.specs.Files.{IsBounds, IsChange, IsQueries, IsStyle}
use Rattle.tag_rows.specs.Lines.{lines_text_of}
use Rattle.tag_rows.specs.Points.{points_text_of}

-- the entries of so many files from this one on, one after another
unfoldable pub gathers : (file count : ℕ) → List Entry → (List Entry → Course) → Course
gathers file zero entries rest = rest entries
gathers file (suc count) entries rest = reads file (IsChange file) (λ more. gathers (file + 1) count (entries ++ more) rest)

abbrev pub init_course : Course
init_course = wants_empty (formats (tells (codes "formatted\n") ends))

-- Nothing may have been imported into the store before, or something must have been. A store of the old format is refused as such, and
-- so is that of a follower.
abbrev pub if_formatted : Course → State → Course
if_formatted rest formatted = rest
if_formatted rest (imported held) = refuses AlreadyImported
if_formatted rest (outdated held) = refuses OldFormat
if_formatted rest (following held) = refuses Follower

abbrev pub if_imported : (Holding → Course) → State → Course
if_imported rest formatted = refuses NotImported
if_imported rest (imported held) = rest held
if_imported rest (outdated held) = refuses OldFormat
if_imported rest (following held) = refuses Follower

-- into a store that was just made nothing was imported, whatever its format
abbrev pub if_blank : Course → State → Course
if_blank rest formatted = rest
if_blank rest (imported held) = refuses AlreadyImported
if_blank rest (outdated held) = refuses AlreadyImported
if_blank rest (following held) = refuses AlreadyImported

-- the line that tells of so many changes
abbrev pub version_line : ℕ → List ℕ
version_line changes = codes "version " ++ decimal changes ++ codes "\n"

-- entries are imported under a style, in one commit, and that is told
abbrev pub imports_these : (style : StyleOf × List ℕ) → (buckets : ℕ) → List Entry → (Holding → Course) → Course
imports_these style buckets entries rest =
    commits (Import style.0 style.1 buckets entries)
    (tells (version_line 0)
    (rest (fresh style.0 style.1 buckets entries)))

-- those of a file, which is read whole
abbrev pub imports : (style : StyleOf × List ℕ) → (buckets : ℕ) → (file : ℕ) → (Holding → Course) → Course
imports style buckets file rest = reads file (IsChange file) (λ entries. imports_these style buckets entries rest)

-- a change is appended in one commit, and told
abbrev pub appends_these : BoundsOf → Holding → List Entry → (Holding → Course) → Course
appends_these bounds held change rest =
    commits (Append bounds change)
    (tells (version_line (held.changes + 1))
    (rest (changed bounds change held)))

-- that of a file, which is read whole
abbrev pub appends_one : BoundsOf → Holding → (file : ℕ) → (Holding → Course) → Course
appends_one bounds held file rest = reads file (IsChange file) (λ change. appends_these bounds held change rest)

-- so many change files from this one on, one after another
unfoldable pub appends : BoundsOf → Holding → (file count : ℕ) → (Holding → Course) → Course
appends bounds held file zero rest = rest held
appends bounds held file (suc count) rest = appends_one bounds held file (λ next. appends bounds next (file + 1) count rest)

-- the text of due tiles, from a least zoom on
abbrev pub IsTileText : Tiles → (least : ℕ) → List ℕ → Type 0
IsTileText due least text = (runs : List Run) × ((zoom x y : ℕ) → has runs zoom x y ≡ due zoom x y) × (text ≡ tile_text runs least)

-- versions of a store are shown to readers: these, then the one that is told last, and then one more for each change file, which is
-- appended and told. When all are, what the readers answered is written
unfoldable pub serves : BoundsOf → (queries : List Query) → (readers : ℕ) → (shown : List Holding) → Holding → (file count : ℕ) → Course
serves bounds queries readers shown held file zero = writes (AreBlocks readers queries shown held) ends
serves bounds queries readers shown held file (suc count) =
    appends_one bounds held file (λ next. serves bounds queries readers (shown ++ held ∷ []) next (file + 1) count)

-- the text of all tables, each behind a line with its name
abbrev pub named_text : StyleOf → TableMap → (table : ℕ) → List ℕ
named_text style all table =
    option_map_or (λ definition. codes "table " ++ encode_utf8_all definition.name ++ codes "\n" ++ table_text style all table)
    (slice_get style.tables table) []

abbrev pub tables_text : StyleOf → TableMap → List ℕ
tables_text style all = flat_map (named_text style all) (range_with_len 0 (length style.tables))

-- and that of the due tiles behind it
abbrev pub IsWholeText : (least : ℕ) → Holding → List ℕ → Type 0
IsWholeText least held text =
    (tiles : List ℕ) × IsTileText held.due least tiles
    × (text ≡ tables_text held.style (tables held.style held.objects) ++ codes "tiles\n" ++ tiles)

-- the line that tells how many rows a table has, behind its name
abbrev pub count_line : List TableDef → TableMap → (table : ℕ) → List ℕ
count_line definitions all table =
    option_map_or (λ definition. encode_utf8_all definition.name ++ codes " " ++ decimal (length (rows_of all table)) ++ codes "\n")
    (slice_get definitions table) []

-- these of all tables, in the order of the style
abbrev pub counts_text : StyleOf → TableMap → List ℕ
counts_text style all = flat_map (count_line style.tables all) (range_with_len 0 (length style.tables))

-- how many tiles a run has, and runs have
abbrev pub columns_of : Run → ℕ
columns_of run = run.last + 1 - run.first

abbrev pub tiles_in : List Run → ℕ
tiles_in runs = sum_by columns_of runs

-- how much a store holds: the rows of each table, and the tiles that are due
abbrev pub IsSummary : Holding → List ℕ → Type 0
IsSummary held text =
    (runs : List Run) × IsTileSet runs × ((zoom x y : ℕ) → has runs zoom x y ≡ held.due zoom x y)
    × (text ≡ counts_text held.style (tables held.style held.objects) ++ codes "tiles " ++ decimal (tiles_in runs) ++ codes "\n")

-- what comes when a version of the store was told: nothing, change files, changes that are there already, the whole text or how much it
-- is, or change files while readers are answered
pub data Onward : Type 0 where
  finished : Onward
  appending : (bounds : BoundsOf) → (file count : ℕ) → Onward → Onward
  growing : (bounds : BoundsOf) → (change : List Entry) → Onward → Onward
  telling : (least : ℕ) → Onward
  summing : Onward
  serving : (bounds : BoundsOf) → (queries : List Query) → (readers : ℕ) → (shown : List Holding) → (file count : ℕ) → Onward

abbrev pub onward : Onward → Holding → Course
onward finished held = ends
onward (appending bounds file count last) held = appends bounds held file count (onward last)
onward (growing bounds change last) held = appends_these bounds held change (onward last)
onward (telling least) held = looks (writes (IsWholeText least held) ends)
onward summing held = looks (writes (IsSummary held) ends)
onward (serving bounds queries readers shown file count) held = serves bounds queries readers shown held file count

-- the text of a table, where there is one of the name
abbrev pub exports : Holding → Option ℕ → Course
exports held None = refuses UnknownTable
exports held (Some table) = looks (writes_text (table_text held.style (tables held.style held.objects) table) ends)

-- no tile is due any more, where this is asked for
abbrev pub clears : Bool → Course
clears false = ends
clears true = commits Clear ends

-- the courses of the commands over a store that is there, once it is open
abbrev pub import_into : Files → (buckets : ℕ) → State → Course
import_into files buckets state = if_formatted
    (reads files.first (IsStyle files.first) (λ style.
    imports style buckets (files.first + 1) (onward finished))) state

abbrev pub append_to : Files → State → Course
append_to files state = if_imported (λ held.
    reads files.first (IsBounds files.first) (λ bounds.
    appends bounds held (files.first + 1) (files.count - 1) (onward finished))) state

-- the block that tells what a change has made of the tables
abbrev pub IsDeltaText : (before after : Holding) → List ℕ → Type 0
IsDeltaText before after text =
    (delta : Delta) × IsDeltaOf before.style before.objects after.objects after.changes delta × (text ≡ delta_text delta)

-- so many change files from this one on are appended, one after another, and of each such a block is told
unfoldable pub feeds_changes : BoundsOf → Holding → (file count : ℕ) → Course
feeds_changes bounds held file zero = ends
feeds_changes bounds held file (suc count) =
    reads file (IsChange file) (λ change.
    commits (Append bounds change)
    (feeds (IsDeltaText held (changed bounds change held))
    (feeds_changes bounds (changed bounds change held) (file + 1) count)))

-- so many files of a feed from this one on are followed, one after another
unfoldable pub follows_files : (file count : ℕ) → State → Course
follows_files file zero state = ends
follows_files file (suc count) state = follows file state (λ next. follows_files (file + 1) count next)

-- a store that was only made may begin to follow
abbrev pub follow_to : Files → State → Course
follow_to files formatted = follows_files files.first files.count formatted
follow_to files (imported held) = refuses AlreadyImported
follow_to files (outdated held) = refuses AlreadyImported
follow_to files (following held) = follows_files files.first files.count (following held)

-- the block of all tables comes first, where it is asked for
abbrev pub feeds_full : Bool → Holding → Course → Course
feeds_full false held rest = rest
feeds_full true held rest =
    looks (feeds (λ own. own ≡ full_text held.changes held.style_bytes (tables held.style held.objects)) rest)

abbrev pub feed_to : Files → (full : Bool) → State → Course
feed_to files full state = if_imported (λ held.
    reads files.first (IsBounds files.first) (λ bounds.
    feeds_full full held (feeds_changes bounds held (files.first + 1) (files.count - 1)))) state

-- the same of a store that follows another one
abbrev pub exports_followed : Following → Option ℕ → Course
exports_followed held None = refuses UnknownTable
exports_followed held (Some table) = looks (writes_text (table_text held.style held.tables table) ends)

abbrev pub export_from : (table : List ℕ) → State → Course
export_from table formatted = refuses NotImported
export_from table (imported held) = exports held (table_of held.style.tables table)
export_from table (outdated held) = refuses OldFormat
export_from table (following held) = exports_followed held (table_of held.style.tables table)

abbrev pub tiles_of_store : (least : ℕ) → (clear : Bool) → State → Course
tiles_of_store least clear state = if_imported (λ held. looks (writes (IsTileText held.due least) (clears clear))) state

abbrev pub query_from : Files → State → Course
query_from files state = if_imported (λ held.
    reads files.first (IsQueries held.style files.first) (λ queries.
    looks (writes_text (answers_text held.style (tables held.style held.objects) held.changes queries) ends))) state

abbrev pub serve_to : Files → (readers : ℕ) → State → Course
serve_to files readers state = if_imported (λ held.
    reads files.first (IsBounds files.first) (λ bounds.
    reads (files.first + 1) (IsQueries held.style (files.first + 1)) (λ queries.
    looks (serves bounds queries readers [] held (files.first + 2) (files.count - 2))))) state

-- a store of the old format is written anew in one commit, and that it has this format is told
abbrev pub format_line : List ℕ
format_line = codes "format 2\n"

abbrev pub migrates : State → Course
migrates formatted = refuses NotImported
migrates (imported held) = tells format_line ends
migrates (outdated held) = commits Migrate (tells format_line ends)
migrates (following held) = refuses Follower

-- All of a store is looked at, whether something was imported or not, and that it is sound is told. One of the old format is not
-- judged, nor is that of a follower.
abbrev pub sound_line : List ℕ
sound_line = codes "sound\n"

abbrev pub checks : State → Course
checks formatted = looks (tells sound_line ends)
checks (imported held) = looks (tells sound_line ends)
checks (outdated held) = refuses OldFormat
checks (following held) = refuses Follower

-- a file is imported, so many behind it are appended, and all that the store holds then is told
abbrev pub fills : (style : StyleOf × List ℕ) → BoundsOf → (file changes : ℕ) → Course
fills style bounds file changes = imports style 1024 file (onward (appending bounds (file + 1) changes (telling bounds.zoom)))

-- an empty store is made and filled
abbrev pub replay_course : Files → Course
replay_course files =
    wants_empty
    (reads files.first (IsStyle files.first) (λ style.
    reads (files.first + 1) (IsBounds (files.first + 1)) (λ bounds.
    formats
    (looks
    (fills style bounds (files.first + 2) (files.count - 3))))))

-- an empty store is made and filled with the map of so many squares and its two changes, and how much it holds then is told
abbrev pub fills_demo : (count : ℕ) → Course
fills_demo count = imports_these (demo_style, DEMO_STYLE) 1024 (demo_input count)
    (onward (growing demo_bounds (demo_first count) (growing demo_bounds (demo_second count) summing)))

abbrev pub demo_course : (count : ℕ) → Course
demo_course count = wants_empty (formats (looks (fills_demo count)))

abbrev pub course_of : CommandOf → Course
course_of (points_of key files) = gathers files.first files.count [] (λ entries. writes_text (points_text_of key entries) ends)
course_of (lines_of key files) = gathers files.first files.count [] (λ entries. writes_text (lines_text_of key entries) ends)
course_of (init_of store) = init_course
course_of (import_of store files buckets workers) = opens (import_into files buckets)
course_of (append_of store files ahead workers) = opens (append_to files)
course_of (feed_of store files full workers) = opens (feed_to files full)
course_of (follow_of store files) = opens (follow_to files)
course_of (export_of store table) = opens (export_from table)
course_of (tiles_of store least clear) = opens (tiles_of_store least clear)
course_of (query_of store files) = opens (query_from files)
course_of (serve_of store files workers readers) = opens (serve_to files readers)
course_of (replay_of store files workers) = replay_course files
course_of (migrate_of store) = opens migrates
course_of (check_of store) = opens checks
course_of (demo_of count store workers) = demo_course count
