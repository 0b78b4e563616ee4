-- How a store follows another one through the files of its feed: a block is taken and told, and so is file after file.
use Rattle.std.specs.Prelude.{◌≡◌, ◌≢◌, ◌⊎◌, ℕ, ◌+◌, suc, Bool, true, false, List, [], ◌∷◌, Option, None, Some, Result, Ok, Err}
use Rattle.osm_base.specs.bounds.Limits.{standard}
use Rattle.outside.specs.Reads.{ReadsNoOther}
use Rattle.outside.specs.Bytes.{BothKnown, IfTold, IsTold}
use Rattle.outside.specs.Inputs.{FilesView}
use Rattle.outside.specs.Sink.{SinkView}
use Rattle.outside.specs.declared.disk.Disk.{Ghosts}
use Rattle.delta_feed.specs.Blocks.{Comes as ComeTo, whole}
use Rattle.delta_feed.specs.Feeding.{IsGoing, lines_left}
use Rattle.delta_feed.specs.declared.block.Block.{Block}
use Rattle.delta_feed.specs.declared.block.Block.TheVariants as blocks
use Rattle.delta_feed.specs.declared.block.Stage.TheVariants as stages
use Rattle.delta_feed.specs.declared.reader.FeedReader.{FeedReader}
use Rattle.update_flow.specs.Follower.{StaysOver, handle_of}
use Rattle.update_flow.specs.Handle.{Handle, IsOpen, view_of}
use Rattle.update_flow.specs.State.{State, Follow, after, formatted, following, style_in}
use Rattle.update_flow.specs.declared.fault.FollowFault.{FollowFault}
use Rattle.update_flow.specs.declared.fault.FollowFault.TheVariants as follow
use Rattle.update_flow.specs.declared.follower.Follower.{Follower}
use Rattle.run_promise.specs.declared.fault.Fault.{Fault}
use Rattle.run_promise.specs.declared.fault.Fault.TheVariants.{BadStore, Gap, NotFormatted, NotImported}
use Rattle.run_promise.specs.Comes.{Comes, FollowsTo}
use Rattle.run_promise.specs.Courses.{follows_files}
use Rattle.run_promise.specs.Faults.{flow_fault}
use Rattle.run_promise.specs.Followed.{FeedEnd, IsFeed, IsFeedFrom, IsGap, MayComeNext, stopped, unseen}
use Rattle.run_promise.specs.Leaves.{Leaves}
use Rattle.run_promise.specs.Progress.{Progress, Ending}
use Rattle.run_promise.specs.Runs.{AsksOnly}
use Rattle.run_promise.specs.World.{Before, World, world}
use Rattle.updater.specs.Heads.{GoesOn, IsHead}

-- why a block of this file is not taken, as the fault of a run
abbrev pub follow_fault : (file : ℕ) → FollowFault → Fault
follow_fault file (follow.Flow fault) = flow_fault fault
follow_fault file follow.NotImported = NotImported
follow_fault file (follow.Gap have got) = Gap file have got

-- a reader reads on in this file, under the limits of the program
pub record IsReadingOn (file : ℕ) (reader : FeedReader) : Type 0 where
  pub going : IsGoing reader
  pub own : reader.file ≡ file
  pub limits : reader.limits ≡ standard

-- a store may follow another one: it was only made, or does so
abbrev pub MayFollow : State → Type 0
MayFollow formatted = Unit {0}
MayFollow (following held) = Unit {0}
MayFollow _ = ⊥

-- these blocks of a file are taken and told, and then so many more files are followed
abbrev pub FollowsThen : Before → (file : ℕ) → List Block → FeedEnd → State → Progress → (count : ℕ) → Ending → Type 0
FollowsThen old file told end state done count ending =
    FollowsTo old file told end state done ending (λ next further. Comes old (follows_files (file + 1) count next) further ending)

-- A block was taken and told. Whatever ending the blocks behind it have from here, all have from before it.
pub record HasTaken (file : ℕ) (block : Block) (start done : Progress) (state : State) (old : Before) (files : FilesView) (store : Handle)
    (output : SinkView) : Type 0 where
  pub comes : MayComeNext state block
  pub further : Progress
  pub head : IsHead start further (after state (Follow block)) file old files store output
  pub leads : (later : List Block) (end : FeedEnd) (count : ℕ) (ending : Ending)
      → FollowsThen old file later end (after state (Follow block)) further count ending
      → FollowsThen old file (block ∷ later) end state done count ending

-- The run ends here, in the middle of the file: blocks and an end of which this is so lead to it.
pub record HasStopped (IsSo : List Block → FeedEnd → Type 0) (file : ℕ) (fault : Fault) (start done : Progress) (state : State) (old :
    Before)
    (new : World) : Type 0 where
  pub told : List Block
  pub end : FeedEnd
  pub so : IsSo told end
  pub ending : Ending
  pub for : ending.fault ≡ Some fault
  pub comes : (count : ℕ) → FollowsThen old file told end state done count ending
  pub leaves : Leaves start ending old new

-- a difference has nothing to differ from
abbrev pub IsBaseless : State → Block → Type 0
IsBaseless formatted (blocks.Delta delta) = Unit {0}
IsBaseless _ _ = ⊥

-- what is told of a file that goes on with this block, where the run ends in it: the block, or no more than the reason why it is not taken
abbrev pub IsOfBlock : (file : ℕ) → State → Block → List Block → FeedEnd → Type 0
IsOfBlock file state block told end = ((told ≡ []) × (end ≡ unseen))
    ⊎ ((told ≡ block ∷ []) × (end ≡ unseen) × MayComeNext state block)
    ⊎ ((fault : Fault) × (told ≡ []) × (end ≡ stopped fault) × (IsGap file state block fault ⊎ IsBaseless state block))

-- a block was taken and told, or the run ends in it
abbrev pub TakesBlock : (file : ℕ) → Block → Option Fault → (start done : Progress) → State → Before → (files read : FilesView) → Handle
    → SinkView
    → Type 0
TakesBlock file block None start done state old files read store output = HasTaken file block start done state old files store output
TakesBlock file block (Some fault) start done state old files read store output =
    HasStopped (IsOfBlock file state block) file fault start done state old (world read (view_of store) output)

-- what a reader has left of its file, where it is told, are these blocks for a store of this state, and then that
abbrev pub IsLeft : (file : ℕ) → State → FeedReader → Option (List ℕ) → List Block → FeedEnd → Type 0
IsLeft file state reader left told end = IfTold left (λ bytes. IsFeedFrom file state reader.lines.number (lines_left reader bytes) told
    end)

-- no line is left
abbrev pub IsOver : (before after : FeedReader) → (left rest : Option (List ℕ)) → Type 0
IsOver before after left rest = BothKnown left rest (λ bytes behind. (lines_left before bytes ≡ []) × (lines_left after behind ≡ []))

-- this block comes first in what a reader has left
abbrev pub IsFirst : State → Block → (before after : FeedReader) → (left rest : Option (List ℕ)) → Type 0
IsFirst state block before after left rest = BothKnown left rest (λ bytes behind.
    ComeTo standard (style_in state) stages.Between before.lines.number (lines_left before bytes)
    (whole block after.lines.number (lines_left after behind)))

-- the next block was read, taken and told; or the file is at its end; or the run ends in it
abbrev pub TakesNext : (file : ℕ) → Result Bool Fault → (start done : Progress) → State → Before → (files : FilesView)
    → (before after : FeedReader) → (left read : FilesView) → Handle → SinkView → Type 0
TakesNext file (Ok true) start done state old files before after left read store output =
    (block : Block) × IsFirst state block before after (left.left file) (read.left file)
    × HasTaken file block start done state old files store output
TakesNext file (Ok false) start done state old files before after left read store output =
    IsOver before after (left.left file) (read.left file) × IsHead start done state file old files store output
TakesNext file (Err fault) start done state old files before after left read store output =
    HasStopped (IsLeft file state before (left.left file)) file fault start done state old (world read (view_of store) output)

-- Some blocks of a file are taken and told. Whatever blocks are left, and whatever ending they have from here: with those that were
-- taken they are blocks of the file, and have it from its beginning.
pub record IsWithin (file : ℕ) (start done : Progress) (first : State) (old : Before) (files : FilesView) (reader : FeedReader)
    (now : FilesView) (store : Handle) (output : SinkView) : Type 0 where
  pub further : Progress
  pub state : State
  pub may : MayFollow state
  pub head : IsHead start further state file old files store output
  pub told : IsTold (files.left file) → IsTold (now.left file)
  pub leads : (told : List Block) (end : FeedEnd) (count : ℕ) (ending : Ending) → IsLeft file state reader (now.left file) told end
      → FollowsThen old file told end state further count ending
      → (all : List Block) × (last : FeedEnd) × IfTold (files.left file) (λ bytes. IsFeed file first bytes all last)
      × FollowsThen old file all last first done count ending

-- a file was followed to its end, and those behind it lead on; or the run ends in it
abbrev pub FollowsFile : (file : ℕ) → Option Fault → (start done : Progress) → State → Before → FilesView → Handle → SinkView → Type 0
FollowsFile file None start done state old read store output = (further : Progress) × (next : State) × MayFollow next
    × IsHead start further next (file + 1) old read store output
    × ((count : ℕ) (ending : Ending) → Comes old (follows_files (file + 1) count next) further ending
    → Comes old (follows_files file (suc count) state) done ending)
FollowsFile file (Some fault) start done state old read store output =
    (count : ℕ) → GoesOn (follows_files file (suc count) state) start done (Some fault) old (world read (view_of store) output)

-- Some of so many files are followed, and so many are left, from this one on.
pub record IsFollowing (first count : ℕ) (start done : Progress) (state : State) (file left : ℕ) (old : Before) (read : FilesView)
    (store : Handle) (output : SinkView) : Type 0 where
  pub further : Progress
  pub now : State
  pub may : MayFollow now
  pub head : IsHead start further now file old read store output
  pub leads : (ending : Ending) → Comes old (follows_files file left now) further ending
      → Comes old (follows_files first count state) done ending

-- a store that stands for a state
abbrev pub Stands : Handle → Type 0
Stands store = (state : State) × IsOpen state store

-- of one no damaged page is told, and where no fault is it stands for one still
pub record EndsStanding (fault : Option Fault) (store : Handle) : Type 0 where
  pub never : (page : ℕ) → fault ≢ Some (BadStore page)
  pub stays : fault ≡ None → Stands store

abbrev pub KeepsStanding : Option Fault → (before after : Handle) → Type 0
KeepsStanding fault before after = Stands before → EndsStanding fault after

-- the store stays open over its disk, under its limits, and one that stands for a state is kept; no fault says that the disk holds no store
pub record KeepsFollower {D : Type 0} {g : Ghosts D} (fault : Option Fault) (old new : Follower D g) : Type 0 where
  pub stays : StaysOver old new
  pub formatted : fault ≢ Some NotFormatted
  pub stands : KeepsStanding fault (handle_of old) (handle_of new)

-- so it is, and no other file is read
pub record FollowsOn {D : Type 0} {g : Ghosts D} (asks : List ℕ → Type 0) (file : ℕ) (fault : Option Fault) (left now : FilesView)
    (old new : Follower D g) : Type 0 where
  pub keeps : KeepsFollower fault old new
  pub read : ReadsNoOther file asks left now

-- so it is, and no file but such is asked for
pub record Follows {D : Type 0} {g : Ghosts D} (asks : List ℕ → Type 0) (named : ℕ → Type 0) (fault : Option Fault)
    (old new : Follower D g) : Type 0 where
  pub keeps : KeepsFollower fault old new
  pub asked : AsksOnly asks named
