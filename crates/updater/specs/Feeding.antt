-- Between two deeds of a feed over an open store.
use Rattle.std.specs.Prelude.{ℕ, ◌+◌, suc, Bool, Option, Some, None}
use Rattle.delta_feed.specs.declared.fault.FeedWrite.{FeedWrite}
use Rattle.delta_feed.specs.declared.fault.FeedWrite.TheVariants as writing
use Rattle.outside.specs.Inputs.{FilesView}
use Rattle.outside.specs.Sink.{SinkView}
use Rattle.tile_cover.specs.Table.{BoundsOf}
use Rattle.update_flow.specs.Handle.{Handle, view_of}
use Rattle.update_flow.specs.State.{Holding, imported}
use Rattle.run_promise.specs.declared.fault.Fault.{Fault}
use Rattle.run_promise.specs.declared.fault.Fault.TheVariants as faults
use Rattle.run_promise.specs.Comes.{Comes}
use Rattle.run_promise.specs.Courses.{feeds_changes, feeds_full}
use Rattle.run_promise.specs.Progress.{Ending, Progress}
use Rattle.run_promise.specs.World.{Before, world}
use Rattle.updater.specs.Heads.{GoesOn, IsHead}

-- what a run ends with where a block was not written whole
abbrev pub feed_fault : FeedWrite → Fault
feed_fault writing.WriteFault = faults.WriteFault
feed_fault writing.OutOfMemory = faults.OutOfMemory

-- the block of all tables is told where it is asked for, and the changes may come; or the run ends in it
abbrev pub FeedsFull : (full : Bool) → Option Fault → (start done : Progress) → Holding → (next : ℕ) → Before → FilesView → Handle
    → SinkView → Type 0
FeedsFull full None start done held next old files updater output = (further : Progress)
    × IsHead start further (imported held) next old files updater output
    × ((bounds : BoundsOf) (file count : ℕ) (ending : Ending) → Comes old (feeds_changes bounds held file count) further ending
    → Comes old (feeds_full full held (feeds_changes bounds held file count)) done ending)
FeedsFull full (Some fault) start done held next old files updater output =
    (bounds : BoundsOf) (file count : ℕ)
    → GoesOn (feeds_full full held (feeds_changes bounds held file count)) start done (Some fault) old
    (world files (view_of updater) output)

-- a change file is appended and the block of it told, and so many files behind it may come; or the run ends in it
abbrev pub FeedsOne : BoundsOf → (file : ℕ) → Option Fault → (start done : Progress) → Holding → Before → FilesView → Handle → SinkView
    → Type 0
FeedsOne bounds file None start done held old files updater output = (further : Progress) × (next : Holding)
    × IsHead start further (imported next) (file + 1) old files updater output
    × ((count : ℕ) (ending : Ending) → Comes old (feeds_changes bounds next (file + 1) count) further ending
    → Comes old (feeds_changes bounds held file (suc count)) done ending)
FeedsOne bounds file (Some fault) start done held old files updater output =
    (count : ℕ) → GoesOn (feeds_changes bounds held file (suc count)) start done (Some fault) old (world files (view_of updater) output)

-- Of some of so many change files the blocks are told, and so many files are left, from this one on. Whatever ending the rest of the
-- course has from here, the whole course has from its beginning.
pub record IsFeeding (bounds : BoundsOf) (held : Holding) (first count : ℕ) (start done : Progress) (file left : ℕ) (old : Before)
    (files : FilesView) (updater : Handle) (output : SinkView) : Type 0 where
  pub further : Progress
  pub now : Holding
  pub head : IsHead start further (imported now) file old files updater output
  pub leads : (ending : Ending) → Comes old (feeds_changes bounds now file left) further ending
      → Comes old (feeds_changes bounds held first count) done ending
