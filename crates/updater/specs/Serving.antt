-- Between two change files of a run that shows readers each version.
use Rattle.std.specs.Prelude.{◌≡◌, ◌≤◌, ℕ, ◌+◌, List, [], ◌∷◌, ◌++◌, length, take, All, Option, Some, None, Result, Ok, Err, OnOk}
use Rattle.outside.specs.Inputs.{FilesView}
use Rattle.outside.specs.declared.disk.Disk.{Ghosts}
use Rattle.outside.specs.Sink.{SinkView}
use Rattle.osm_base.specs.declared.values.row.Delta.{Delta}
use Rattle.osm_base.specs.map.Spots.{TableMap, changed_all}
use Rattle.map_query.specs.declared.query.Query.{Query}
use Rattle.row_rules.specs.Row.{tables}
use Rattle.style_read.specs.Style.{StyleOf}
use Rattle.tile_cover.specs.Table.{BoundsOf}
use Rattle.table_versions.specs.Fronts.{FrontOf}
use Rattle.table_versions.specs.Versions.{after, tables_of, version_of}
use Rattle.table_versions.specs.declared.answers.Answer.{Answer}
use Rattle.reader_rounds.specs.Asking.{begin_of}
use Rattle.reader_rounds.specs.Rounds.{AreServed}
use Rattle.update_flow.specs.State.{Holding, imported}
use Rattle.update_flow.specs.Handle.{Handle, view_of}
use Rattle.update_flow.specs.Updater.{handle_of}
use Rattle.update_flow.specs.declared.updater.Updater.{Updater}
use Rattle.run_promise.specs.declared.fault.Fault.{Fault}
use Rattle.updater.specs.Blocks.{given_blocks}
use Rattle.run_promise.specs.Blocks.{version_at}
use Rattle.run_promise.specs.Comes.{Comes, IsCertain}
use Rattle.run_promise.specs.Courses.{Onward, appends_one, onward, serves, serving}
use Rattle.updater.specs.Heads.{GoesOn, IsHead}
use Rattle.run_promise.specs.Progress.{Progress, Ending}
use Rattle.run_promise.specs.World.{Before, world}

-- a delta makes of the tables of one state those of the next
pub record IsNext (held next : Holding) (delta : Delta) : Type 0 where
  pub changes : next.changes ≡ held.changes + 1
  pub style : next.style ≡ held.style
  pub tables : changed_all (tables held.style held.objects) delta.changes ≡ tables next.style next.objects

-- a file was appended and told, by such a delta, and the run goes on; or it ends in it
abbrev pub LeadsBy : BoundsOf → (file : ℕ) → Result Delta Fault → (start done : Progress) → Holding → Before → FilesView → Handle → SinkView
    → Type 0
LeadsBy bounds file (Ok delta) start done held old files updater output = (further : Progress) × (next : Holding)
    × IsHead start further (imported next) (file + 1) old files updater output
    × ((last : Onward) (ending : Ending) → Comes old (onward last next) further ending
    → Comes old (appends_one bounds held file (onward last)) done ending)
    × (IsCertain further.store → IsCertain done.store × IsNext held next delta)
LeadsBy bounds file (Err fault) start done held old files updater output =
    (last : Onward) → GoesOn (appends_one bounds held file (onward last)) start done (Some fault) old (world files (view_of updater) output)

-- what is shown last is what the store holds: the front is at this number of changes, and these are its tables
pub record ShowsFront (changes : ℕ) (tables : TableMap) (front : FrontOf) : Type 0 where
  pub version : changes ≡ version_of front
  pub tables_are : tables ≡ tables_of front

-- the history of what is shown goes on from where it began, and without a fault what is shown last is what the store holds
pub record KeepsFront {A : Type 0} (result : Result A Fault) (changes : ℕ) (tables : TableMap) (before now : FrontOf) : Type 0 where
  pub begin : begin_of now ≡ begin_of before
  pub shown : OnOk result (ShowsFront changes tables now)

-- the history of what is shown goes on by one delta
abbrev pub with_delta : FrontOf → Delta → FrontOf
with_delta front delta = record front { log = front.log ++ delta ∷ [] }

-- a file was appended, told and shown, and the run goes on; or it ends in it, whatever is served
abbrev pub Publishes : BoundsOf → (file : ℕ) → Option Fault → (start done : Progress) → Holding → Before → FilesView → Handle → SinkView
    → (before now : FrontOf) → Type 0
Publishes bounds file None start done held old files updater output before now = (further : Progress) × (next : Holding)
    × IsHead start further (imported next) (file + 1) old files updater output
    × ((last : Onward) (ending : Ending) → Comes old (onward last next) further ending
    → Comes old (appends_one bounds held file (onward last)) done ending)
    × ((delta : Delta) × (now ≡ with_delta before delta) × (IsCertain further.store → IsCertain done.store × IsNext held next delta))
Publishes bounds file (Some fault) start done held old files updater output before now =
    (queries : List Query) (readers : ℕ) (shown : List Holding) (count : ℕ)
    → GoesOn (appends_one bounds held file (onward (serving bounds queries readers shown (file + 1) count))) start done (Some fault) old
    (world files (view_of updater) output)

-- a version of the history is a state of the store
pub record IsShownAs (style : StyleOf) (front : FrontOf) (number : ℕ) (held : Holding) : Type 0 where
  pub changes : held.changes ≡ front.base + number
  pub style_is : held.style ≡ style
  pub tables : after front.first (take number front.log) ≡ tables held.style held.objects

-- the versions of the history are those that were shown, and the last one
pub record AreShown (style : StyleOf) (front : FrontOf) (shown : List Holding) (last : Holding) : Type 0 where
  pub many : length front.log ≡ length shown
  pub each : (number : ℕ) → number ≤ length shown → IsShownAs style front number (version_at shown last number)

-- Some of so many change files are appended, told and shown, and so many are left, from this one on. Whatever ending the rest of the
-- course has from here, the whole course has from its beginning.
pub record IsServing (bounds : BoundsOf) (queries : List Query) (readers : ℕ) (held : Holding) (first count : ℕ) (start done : Progress)
    (file left : ℕ) (old : Before) (files : FilesView) (updater : Handle) (output : SinkView) (before now : FrontOf) : Type 0 where
  pub further : Progress
  pub shown : List Holding
  pub last : Holding
  pub many : length shown + left ≡ count
  pub head : IsHead start further (imported last) file old files updater output
  pub leads : (ending : Ending) → Comes old (serves bounds queries readers shown last file left) further ending
      → Comes old (serves bounds queries readers [] held first count) done ending
  pub certain : IsCertain further.store → IsCertain done.store × (AreShown held.style before [] held → AreShown held.style now shown last)

-- all of them are; or the run ends in one
abbrev pub Serves : BoundsOf → (queries : List Query) → (readers : ℕ) → Option Fault → Holding → (first count : ℕ) → (start done : Progress)
    → Before → FilesView → Handle → SinkView → (before now : FrontOf) → Type 0
Serves bounds queries readers None held first count start done old files updater output before now =
    IsServing bounds queries readers held first count start done (first + count) 0 old files updater output before now
Serves bounds queries readers (Some fault) held first count start done old files updater output before now =
    GoesOn (serves bounds queries readers [] held first count) start done (Some fault) old (world files (view_of updater) output)

-- so many files from this one on are appended, told and shown, or the run ends in one, wherever it began
pub record Shows {D : Type 0} {g : Ghosts D} (bounds : BoundsOf) (first count : ℕ) (fault : Option Fault) (files read : FilesView)
    (store now_store : Updater D g) (output told : SinkView) (before now : FrontOf) : Type 0 where
  pub each : (old : Before) (start done : Progress) (held : Holding) (queries : List Query) (readers : ℕ)
      → IsHead start done (imported held) first old files (handle_of store) output
      → Serves bounds queries readers fault held first count start done old read (handle_of now_store) told before now

-- the text of what so many readers answered in their rounds
pub record IsServed (style : StyleOf) (front : FrontOf) (queries : List Query) (rounds readers : ℕ) (text : List ℕ) : Type 0 where
  pub blocks : List (List (List Answer))
  pub many : length blocks ≡ readers
  pub served : All (AreServed style front queries rounds) blocks
  pub is : text ≡ given_blocks 1 blocks
