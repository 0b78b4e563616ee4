-- Between two deeds of a run over an open store.
use Rattle.std.specs.Prelude.{◌≡◌, ◌≤◌, ℕ, true, length, Option, Some, None}
use Rattle.outside.specs.Disk.{DiskView}
use Rattle.outside.specs.Inputs.{FilesView}
use Rattle.outside.specs.Sink.{SinkView}
use Rattle.osm_base.specs.bounds.Limits.{standard}
use Rattle.update_flow.specs.History.{state_after}
use Rattle.update_flow.specs.State.{Holding, State, imported}
use Rattle.update_flow.specs.Handle.{Handle, IsOpen, Shows, is_whole, limits_of, view_of}
use Rattle.update_flow.specs.Needed.{HasStood}
use Rattle.run_promise.specs.declared.fault.Fault.{Fault}
use Rattle.run_promise.specs.Comes.{Comes, IsCertain}
use Rattle.run_promise.specs.Course.{Course}
use Rattle.tile_cover.specs.Table.{BoundsOf}
use Rattle.run_promise.specs.Courses.{Onward, appends, onward}
use Rattle.run_promise.specs.Keeps.{Kept, whole}
use Rattle.run_promise.specs.Leaves.{Leaves}
use Rattle.run_promise.specs.Progress.{Standing, unused, unknown, keeps, half_made, Progress, Ending, at, IsIn}
use Rattle.run_promise.specs.World.{Before, World, world}

-- the store is at rest at this state, which is that after all of the history that its disk keeps
pub record IsRested (kept : Kept) (cut : ℕ) (state : State) (updater : Handle) : Type 0 where
  pub all : kept ≡ whole kept.history
  pub cut_within : cut ≤ length kept.history.steps
  pub stands : state_after kept.history ≡ state
  pub rests : IsOpen state updater

-- nothing is known of what the store holds, but that it tells what is so of this state
pub record IsShown (state : State) (updater : Handle) : Type 0 where
  pub shows : Shows state updater
  pub whole : is_whole updater ≡ true

-- one or the other, by what is known of the disk
abbrev pub IsHere : Standing → (cut : ℕ) → State → Handle → Type 0
IsHere unused cut state updater = ⊥
IsHere unknown cut state updater = IsShown state updater
IsHere (keeps kept) cut state updater = IsRested kept cut state updater
IsHere half_made cut state updater = ⊥

-- the disk kept no history as the run began, or none that is known
abbrev pub KeptNone : Standing → Type 0
KeptNone (keeps kept) = ⊥
KeptNone _ = Unit {0}

-- Were the run to end here, the outside would be as an ending leaves it, with so much done, and the files from the next one on were
-- not touched.
pub record IsSoFar (start done : Progress) (next : ℕ) (old : Before) (files : FilesView) (disk : DiskView)
    (output : SinkView) : Type 0 where
  pub unread : (file : ℕ) → next ≤ file → ¬ IsIn done.read file
  pub so_far : Leaves start (at done None) old (world files disk output)

-- Were the run to end here, the outside would be as an ending leaves it, with so much done; the store is open at this state; and
-- the files from the next one on were not touched.
pub record IsHead (start done : Progress) (state : State) (next : ℕ) (old : Before) (files : FilesView) (updater : Handle)
    (output : SinkView) : Type 0 where
  pub here : IsHere done.store done.cut state updater
  pub vague : done.store ≡ unknown → KeptNone start.store
  pub limits : limits_of updater ≡ standard
  pub stood : IsCertain done.store → HasStood standard old.content (view_of updater)
  pub unread : (file : ℕ) → next ≤ file → ¬ IsIn done.read file
  pub so_far : Leaves start (at done None) old (world files (view_of updater) output)

-- the run goes on from here by this course, to an end that the course may have
abbrev pub GoesOn : Course → (start done : Progress) → Option Fault → Before → World → Type 0
GoesOn course start done fault old new =
    (ending : Ending) × (ending.fault ≡ fault) × Comes old course done ending × Leaves start ending old new

-- a call on the store goes on to the head of a next turn, from which all that may come by the course comes; or the run ends in it
abbrev pub Leads : (course : Onward → Course) → Option Fault → (start done : Progress) → (next : ℕ) → Before → FilesView → Handle → SinkView
    → Type 0
Leads course None start done next old files updater output = (further : Progress) × (held : Holding)
    × IsHead start further (imported held) next old files updater output
    × ((last : Onward) (ending : Ending) → Comes old (onward last held) further ending → Comes old (course last) done ending)
Leads course (Some fault) start done next old files updater output =
    (last : Onward) → GoesOn (course last) start done (Some fault) old (world files (view_of updater) output)

-- Some of so many change files are appended and told, and so many are left, from this one on. Whatever ending the rest of the course
-- has from here, the whole course has from its beginning.
pub record IsVersion (bounds : BoundsOf) (held : Holding) (first count : ℕ) (start done : Progress) (file left : ℕ) (old : Before)
    (files : FilesView) (updater : Handle) (output : SinkView) : Type 0 where
  pub further : Progress
  pub now : Holding
  pub head : IsHead start further (imported now) file old files updater output
  pub leads : (last : Onward) (ending : Ending) → Comes old (appends bounds now file left (onward last)) further ending
      → Comes old (appends bounds held first count (onward last)) done ending
