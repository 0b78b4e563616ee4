-- To which endings a run on a course may come. Each deed of the course is done, or the run ends in it: for what the bytes that
-- are told say, for a part of the outside that failed, or for want of memory.
use Rattle.std.specs.Prelude.{◌≡◌, ◌≢◌, ◌⊎◌, ◌≤◌, ℕ, List, [], ◌∷◌, length, Option, Some, None, Result, Ok, Err}
use Rattle.outside.specs.Bytes.{IfTold, IsTold}
use Rattle.page_journal.specs.Home.{IsFormatted}
use Rattle.run_promise.specs.declared.fault.Fault.{Fault}
use Rattle.run_promise.specs.declared.fault.Fault.TheVariants.{Malformed, BadStyle, BadBounds, BadQuery, BadFeed, Gap, Limit, ReadFault}
use Rattle.run_promise.specs.declared.fault.Fault.TheVariants.{NotFormatted, NotImported, NotEmpty, WriteFault, DiskFault, OutOfMemory}
use Rattle.osm_base.specs.bounds.Limits.{standard}
use Rattle.page_journal.specs.declared.fault.StoreFault.TheVariants as stores
use Rattle.update_flow.specs.AtRest.{IsDamaged}
use Rattle.update_flow.specs.History.{state_after}
use Rattle.update_flow.specs.Needed.{FitsLimit, NeedsFrom, Writes}
use Rattle.update_flow.specs.Opening.{MayOpenAs}
use Rattle.update_flow.specs.Refusals.{OrFull, Refuses}
use Rattle.update_flow.specs.Calls.{IsChange, IsLook, MayCommit}
use Rattle.update_flow.specs.State.{State, Step, Follow, after, changes_in}
use Rattle.update_flow.specs.declared.fault.FlowFault.{FlowFault}
use Rattle.update_flow.specs.declared.fault.FlowFault.TheVariants as flow
use Rattle.delta_feed.specs.declared.block.Block.{Block}
use Rattle.run_promise.specs.Course.{Course, ends, refuses, reads, wants_empty, formats, opens, looks, commits, tells, writes, feeds}
use Rattle.run_promise.specs.Course.{follows}
use Rattle.run_promise.specs.Courses.{version_line}
use Rattle.run_promise.specs.Faults.{flow_fault}
use Rattle.run_promise.specs.FeedBlocks.{IsFeedBlock}
use Rattle.run_promise.specs.Followed.{FeedEnd, IsFeed, over, stopped, unseen}
use Rattle.run_promise.specs.Keeps.{Kept, first}
use Rattle.run_promise.specs.Progress.{Standing, unused, unknown, keeps, half_made, Progress, Ending, at, at_file, at_text, past, plus}
use Rattle.run_promise.specs.Progress.{within_file}
use Rattle.run_promise.specs.Progress.{with_store, made, opened, committed, in_doubt, IsIn}
use Rattle.run_promise.specs.World.{Before}

-- the disk was at most looked at, and this is so
abbrev pub IfUnused : Standing → Type 0 → Type 0
IfUnused unused P = P
IfUnused _ P = ⊥

-- the disk keeps a history, of which this is so; or nothing is known of it, and that is so
abbrev pub ByStore : Standing → (Kept → Type 0) → Type 0 → Type 0
ByStore (keeps kept) P Q = P kept
ByStore unknown P Q = Q
ByStore _ P Q = ⊥

-- a fault that the bytes of this file may have
abbrev pub IsOfFile : ℕ → Fault → Type 0
IsOfFile file (Malformed own line why) = own ≡ file
IsOfFile file (BadStyle own why part) = own ≡ file
IsOfFile file (BadBounds own line) = own ≡ file
IsOfFile file (BadQuery own line why) = own ≡ file
IsOfFile file (Limit which value) = Unit {0}
IsOfFile file _ = ⊥

-- the files that were read are told
abbrev pub AreTold : Before → List ℕ → Type 0
AreTold old read = (file : ℕ) → IsIn read file → IsTold (old.left file)

-- what the store holds is not unknown
abbrev pub IsCertain : Standing → Type 0
IsCertain unknown = ⊥
IsCertain _ = Unit {0}

-- a run ends in the middle of this file: a read failed, memory ran out, or its bytes have a fault
pub data BreaksIn (A : Type 0) (file : ℕ) (told : Option (List ℕ)) (Reads : List ℕ → Result A Fault → Type 0) (done : Progress)
    (ending : Ending) : Type 0 where
  unread : ending ≡ at_file file done (ReadFault file) → BreaksIn A file told Reads done ending
  short : ending ≡ at_file file done OutOfMemory → BreaksIn A file told Reads done ending
  refused : (fault : Fault) → IsOfFile file fault → IfTold told (λ bytes. Reads bytes (Err fault)) → ending ≡ at_file file done fault
      → BreaksIn A file told Reads done ending

-- the disk failed, or memory ran out
abbrev pub Breaks : Progress → Ending → Type 0
Breaks done ending = (ending ≡ at done (Some DiskFault)) ⊎ (ending ≡ at done (Some OutOfMemory))

-- nothing is known of the store, and this is so
abbrev pub IfUnknown : Standing → Type 0 → Type 0
IfUnknown unknown P = P
IfUnknown _ P = ⊥

-- the disk holds bytes, where it tells what it holds
abbrev pub HoldsBytes : Before → Progress → Ending → Type 0
HoldsBytes old done ending = IfTold old.content (λ bytes. length bytes ≢ 0) × (ending ≡ at done (Some NotEmpty))

-- a disk of which nothing is known holds no store
abbrev pub IsNoStore : Before → Progress → Ending → Type 0
IsNoStore old done ending = IfTold old.content (λ bytes. ¬ IsFormatted bytes) × (ending ≡ at done (Some NotFormatted))

-- a fault that tells of a damaged page
abbrev pub IsBadStore : FlowFault → Type 0
IsBadStore (flow.Store (stores.BadStore page)) = Unit {0}
IsBadStore _ = ⊥

-- a fault for which a store that its root page tells to be ready for a call may refuse it, whatever else it holds: a damaged page; too
-- many pages, where it commits; where it is a change, too many objects, or that no more can be counted; and where it is a look, that
-- something was imported, since of a store that was just made on a disk that tells nothing no more is known
abbrev pub IsStepFault : Option Step → FlowFault → Type 0
IsStepFault call (flow.Store (stores.BadStore page)) = Unit {0}
IsStepFault call (flow.Store (stores.StoreFull pages)) = MayCommit call
IsStepFault call flow.AlreadyImported = IsLook call
IsStepFault call flow.LastChange = IsChange call
IsStepFault call (flow.TooMany value) = IsChange call
IsStepFault call _ = ⊥

-- a step that writes is done where the pages that a store of this state needs after it are within the limit; a refusal for its
-- pages tells just those. The pages that it had are those of the bytes as the run began, or no more than the limit.
abbrev pub IsOfNeed : Before → State → Step → Option FlowFault → Type 0
IsOfNeed old state step fault = Writes state step → FitsLimit standard (NeedsFrom standard old.content state (after state step)) fault

-- and for which one of this state refuses it
abbrev pub IsRefusal : Before → State → Step → FlowFault → Type 0
IsRefusal old state step fault = IsStepFault (Some step) fault × OrFull standard (Some fault) (Refuses standard state step (Some fault))
    × IsOfNeed old state step (Some fault)

-- or it is taken
abbrev pub MayTake : Before → State → Step → Type 0
MayTake old state step = Refuses standard state step None × IsOfNeed old state step None

-- the run ends in a step that is refused for such a fault
abbrev pub IsRefusedFor : (FlowFault → Type 0) → Progress → Ending → Type 0
IsRefusedFor IsWhy done ending = (fault : FlowFault) × IsWhy fault × (ending ≡ at done (Some (flow_fault fault)))

-- a disk of which nothing is known holds a damaged store
abbrev pub IsBroken : Before → Progress → Ending → Type 0
IsBroken old done ending = IfTold old.content IsDamaged × IsRefusedFor IsBadStore done ending

-- a fault that the bytes of this file may have as those of a feed
abbrev pub IsOfFeed : ℕ → Fault → Type 0
IsOfFeed file (BadFeed own line why) = own ≡ file
IsOfFeed file (Gap own have got) = own ≡ file
IsOfFeed file (Limit which value) = Unit {0}
IsOfFeed file NotImported = Unit {0}
IsOfFeed file _ = ⊥

-- a call that reads on in this file fails, or memory runs out
abbrev pub BreaksWithin : (file : ℕ) → Progress → Ending → Type 0
BreaksWithin file done ending = (ending ≡ at_file file done (ReadFault file)) ⊎ (ending ≡ at_file file done OutOfMemory)

-- a step that a block asks for is refused, in the middle of its file
abbrev pub IsRefusedWithin : (file : ℕ) → (FlowFault → Type 0) → Progress → Ending → Type 0
IsRefusedWithin file IsWhy done ending = (fault : FlowFault) × IsWhy fault × (ending ≡ at_file file done (flow_fault fault))

-- a block is taken in one step in the middle of its file, and then that comes; or the run ends in it
abbrev pub TakesWithin : Before → (file : ℕ) → Block → Progress → Ending → (Progress → Type 0) → Type 0
TakesWithin old file block done ending GoesOn = BreaksWithin file done ending ⊎ (ending ≡ at_file file done DiskFault) ⊎ ByStore done.store
    (λ kept. (ending ≡ at_file file (in_doubt (Follow block) kept done) DiskFault)
    ⊎ IsRefusedWithin file (IsRefusal old (state_after kept.history) (Follow block)) done ending
    ⊎ (MayTake old (state_after kept.history) (Follow block) × GoesOn (committed (Follow block) kept done)))
    (IsRefusedWithin file (IsStepFault (Some (Follow block))) done ending ⊎ GoesOn done)

-- this is told in the middle of a file, and then that comes; or the run ends in it
abbrev pub TellsWithin : (file : ℕ) → List ℕ → Progress → Ending → (Progress → Type 0) → Type 0
TellsWithin file text done ending GoesOn = (ending ≡ within_file file (at_text text done WriteFault)) ⊎ GoesOn (plus text done)

-- These blocks of a file are taken, one after another, each in one step, and told; then that comes. The run ends in one of them, or in the
-- file behind them, or goes on with the state that they have led to.
abbrev pub FollowsTo : Before → (file : ℕ) → List Block → FeedEnd → State → Progress → Ending → (State → Progress → Type 0) → Type 0
FollowsTo old file [] over state done ending GoesOn = BreaksWithin file done ending ⊎ GoesOn state (past file done)
FollowsTo old file [] (stopped fault) state done ending GoesOn = BreaksWithin file done ending
    ⊎ (IsOfFeed file fault × (ending ≡ at_file file done fault))
FollowsTo old file [] unseen state done ending GoesOn = BreaksWithin file done ending
FollowsTo old file (block ∷ later) end state done ending GoesOn = TakesWithin old file block done ending
    (λ taken. TellsWithin file (version_line (changes_in (after state (Follow block)))) taken ending
    (λ told. FollowsTo old file later end (after state (Follow block)) told ending GoesOn))

abbrev pub Comes : Before → Course → Progress → Ending → Type 0
Comes old ends done ending = ending ≡ at done None
Comes old (refuses fault) done ending = ending ≡ at done (Some fault)
Comes old (reads {A} file Reads rest) done ending = BreaksIn A file (old.left file) Reads done ending
    ⊎ ((found : A) × IfTold (old.left file) (λ bytes. Reads bytes (Ok found)) × Comes old (rest found) (past file done) ending)
Comes old (wants_empty rest) done ending = (ending ≡ at done (Some DiskFault))
    ⊎ HoldsBytes old done ending
    ⊎ (IfTold old.content (λ bytes. length bytes ≡ 0) × Comes old rest done ending)
Comes old (formats rest) done ending = IfUnused done.store (HoldsBytes old done ending
    ⊎ (ending ≡ at (with_store half_made done) (Some DiskFault)) ⊎ Comes old rest (with_store (made old.content) done) ending)
Comes old (opens rest) done ending = Breaks done ending ⊎ ByStore done.store
    (λ kept. (cut : ℕ) × (kept.least ≤ cut) × (cut ≤ kept.most)
    × Comes old (rest (state_after (first cut kept.history))) (opened kept cut done) ending)
    (IsNoStore old done ending ⊎ IsBroken old done ending
    ⊎ ((state : State) × IfTold old.content (MayOpenAs state) × Comes old (rest state) done ending))
Comes old (looks rest) done ending = Breaks done ending ⊎ IfUnknown done.store (IsRefusedFor (IsStepFault None) done ending)
    ⊎ Comes old rest done ending
Comes old (commits step rest) done ending = Breaks done ending ⊎ ByStore done.store
    (λ kept. (ending ≡ at (in_doubt step kept done) (Some DiskFault))
    ⊎ IsRefusedFor (IsRefusal old (state_after kept.history) step) done ending
    ⊎ (MayTake old (state_after kept.history) step × Comes old rest (committed step kept done) ending))
    (IsRefusedFor (IsStepFault (Some step)) done ending ⊎ Comes old rest done ending)
Comes old (tells text rest) done ending = (ending ≡ at_text text done WriteFault) ⊎ Comes old rest (plus text done) ending
-- what files that are not told hold is not known, nor what an unknown store holds, and neither is their text
Comes old (writes Fits rest) done ending = (ending ≡ at done (Some OutOfMemory))
    ⊎ ((own : List ℕ) × (AreTold old done.read → IsCertain done.store → Fits own)
    × ((ending ≡ at_text own done WriteFault) ⊎ Comes old rest (plus own done) ending))
Comes old (feeds Fits rest) done ending = (ending ≡ at done (Some OutOfMemory))
    ⊎ ((own : List ℕ) × IsFeedBlock own × (AreTold old done.read → IsCertain done.store → Fits own)
    × ((ending ≡ at_text own done WriteFault) ⊎ Comes old rest (plus own done) ending))
Comes old (follows file state rest) done ending = (told : List Block) × (end : FeedEnd)
    × IfTold (old.left file) (λ bytes. IsFeed file state bytes told end)
    × FollowsTo old file told end state done ending (λ next further. Comes old (rest next) further ending)

-- the fault blames the outside, or the want of memory
abbrev pub IsOutside : Option Fault → Type 0
IsOutside (Some (ReadFault file)) = Unit {0}
IsOutside (Some WriteFault) = Unit {0}
IsOutside (Some DiskFault) = Unit {0}
IsOutside (Some OutOfMemory) = Unit {0}
IsOutside _ = ⊥

-- a block is taken, and then that comes, if nothing outside fails and there is memory; or it is refused
abbrev pub IsDueWithin : Before → (file : ℕ) → Block → Progress → Ending → (Progress → Type 0) → Type 0
IsDueWithin old file block done ending GoesOn = ByStore done.store
    (λ kept. IsRefusedWithin file (IsRefusal old (state_after kept.history) (Follow block)) done ending
    ⊎ (MayTake old (state_after kept.history) (Follow block) × GoesOn (committed (Follow block) kept done)))
    (IsRefusedWithin file (IsStepFault (Some (Follow block))) done ending ⊎ GoesOn done)

-- these blocks of a file are taken and told, and then that comes, in the same case
abbrev pub IsDueFollowing : Before → (file : ℕ) → List Block → FeedEnd → State → Progress → Ending → (State → Progress → Type 0) → Type 0
IsDueFollowing old file [] over state done ending GoesOn = GoesOn state (past file done)
IsDueFollowing old file [] (stopped fault) state done ending GoesOn = IsOfFeed file fault × (ending ≡ at_file file done fault)
IsDueFollowing old file [] unseen state done ending GoesOn = ⊥
IsDueFollowing old file (block ∷ later) end state done ending GoesOn = IsDueWithin old file block done ending
    (λ taken. IsDueFollowing old file later end (after state (Follow block))
    (plus (version_line (changes_in (after state (Follow block)))) taken) ending GoesOn)

-- the end that is due: that to which a run comes if nothing outside fails and there is memory
abbrev pub IsDue : Before → Course → Progress → Ending → Type 0
IsDue old ends done ending = ending ≡ at done None
IsDue old (refuses fault) done ending = ending ≡ at done (Some fault)
IsDue old (reads {A} file Reads rest) done ending =
    ((fault : Fault) × IsOfFile file fault × IfTold (old.left file) (λ bytes. Reads bytes (Err fault)) × (ending ≡ at_file file done fault))
    ⊎ ((found : A) × IfTold (old.left file) (λ bytes. Reads bytes (Ok found)) × IsDue old (rest found) (past file done) ending)
IsDue old (wants_empty rest) done ending = HoldsBytes old done ending
    ⊎ (IfTold old.content (λ bytes. length bytes ≡ 0) × IsDue old rest done ending)
IsDue old (formats rest) done ending = IfUnused done.store (HoldsBytes old done ending
    ⊎ IsDue old rest (with_store (made old.content) done) ending)
IsDue old (opens rest) done ending = ByStore done.store
    (λ kept. (cut : ℕ) × (kept.least ≤ cut) × (cut ≤ kept.most)
    × IsDue old (rest (state_after (first cut kept.history))) (opened kept cut done) ending)
    (IsNoStore old done ending ⊎ IsBroken old done ending
    ⊎ ((state : State) × IfTold old.content (MayOpenAs state) × IsDue old (rest state) done ending))
IsDue old (looks rest) done ending = IfUnknown done.store (IsRefusedFor (IsStepFault None) done ending) ⊎ IsDue old rest done ending
IsDue old (commits step rest) done ending = ByStore done.store
    (λ kept. IsRefusedFor (IsRefusal old (state_after kept.history) step) done ending
    ⊎ (MayTake old (state_after kept.history) step × IsDue old rest (committed step kept done) ending))
    (IsRefusedFor (IsStepFault (Some step)) done ending ⊎ IsDue old rest done ending)
IsDue old (tells text rest) done ending = IsDue old rest (plus text done) ending
IsDue old (writes Fits rest) done ending =
    (own : List ℕ) × (AreTold old done.read → IsCertain done.store → Fits own) × IsDue old rest (plus own done) ending
IsDue old (feeds Fits rest) done ending =
    (own : List ℕ) × IsFeedBlock own × (AreTold old done.read → IsCertain done.store → Fits own) × IsDue old rest (plus own done) ending
IsDue old (follows file state rest) done ending = (told : List Block) × (end : FeedEnd)
    × IfTold (old.left file) (λ bytes. IsFeed file state bytes told end)
    × IsDueFollowing old file told end state done ending (λ next further. IsDue old (rest next) further ending)
