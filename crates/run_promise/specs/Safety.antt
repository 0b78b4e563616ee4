-- What a store keeps through a run, whatever the command and the answer.
use Rattle.std.specs.Prelude.{◌≡◌, ◌≢◌, ◌⊎◌, ◌≤◌, ◌+◌, ◌-◌, ◌++◌, ℕ, Bool, true, false, List, [], length, Option, Some, None}
use Rattle.std.specs.List.{AllByRecursion, concat}
use Rattle.outside.specs.Bytes.{BothKnown, IsTold}
use Rattle.run_promise.specs.declared.fault.Fault.{Fault}
use Rattle.run_promise.specs.declared.fault.Fault.TheVariants.{WriteFault, DiskFault, OutOfMemory}
use Rattle.update_flow.specs.State.{Step}
use Rattle.run_promise.specs.CommandOf.{CommandOf, import_of, append_of, feed_of, follow_of, serve_of, replay_of, demo_of, new_store}
use Rattle.run_promise.specs.CommandOf.{old_store, use_of}
use Rattle.run_promise.specs.Comes.{Comes}
use Rattle.run_promise.specs.Courses.{course_of}
use Rattle.run_promise.specs.FeedBlocks.{IsFeedBlock, IsPart, lines_in}
use Rattle.run_promise.specs.Keeps.{Is, IsFit, IsKept, IsOneOf, Keeps, Kept, blank, first, whole, with_steps}
use Rattle.run_promise.specs.Progress.{Ending, Progress, begun, keeps, unused}
use Rattle.run_promise.specs.World.{World, remembered}

-- a crash at each moment of the run left the store after some steps that the disk kept before, or of those that it keeps now, from
-- the cut on
abbrev pub LeavesPrefixes : (before now : Kept) → (cut : ℕ) → World → World → Type 0
LeavesPrefixes before now cut old new = (left : List ℕ) → new.disk.crashes.outcomes_since old.disk.crashes.moment left
    → IsOneOf before left ⊎ ((steps : ℕ) × (cut ≤ steps) × Is left now.history steps)

-- whatever the answer, the disk keeps a history of which the last step alone may be in doubt, and none is where the run did all that
-- it was asked to; after any fault but its own it tells what a read gives
pub record KeepsAtEnd (now : Kept) (new : World) (fault : Option Fault) : Type 0 where
  pub keeps : Keeps new.disk now
  pub fit : IsFit now
  pub all : fault ≡ None → now.least ≡ length now.history.steps
  pub told : fault ≢ Some DiskFault → IsTold new.disk.content

-- how many steps a command tells, if it comes to its end: each in a line of its own, and these lines are the first that it writes
abbrev pub steps_told : CommandOf → ℕ
steps_told (import_of store files buckets workers) = 1
steps_told (append_of store files ahead workers) = files.count - 1
steps_told (serve_of store files workers readers) = files.count - 2
steps_told (replay_of store files workers) = files.count - 2
steps_told (demo_of count store workers) = 3
steps_told _ = 0

-- the output took so many lines of the run, of which so many tell steps at most: each step whose line was taken whole is kept. After a
-- fault the run took no other step, unless the disk failed; where the output failed, the line of the last step may be missing
pub record Acknowledges (most : ℕ) (now : Kept) (cut : ℕ) (steps : List Step) (fault : Option Fault) (lines : ℕ) : Type 0 where
  pub kept : (told : ℕ) → told ≤ most → told ≤ lines → cut + told ≤ now.least
  pub only : fault ≢ None → fault ≢ Some WriteFault → fault ≢ Some DiskFault → length steps ≤ lines
  pub last : fault ≡ Some WriteFault → length steps ≤ lines + 1

-- the blocks of a feed that tell no step: that of all tables, where it is asked for
abbrev pub untold_blocks : (full : Bool) → ℕ
untold_blocks false = 0
untold_blocks true = 1

-- What the output took of a feed: blocks, and a part of one more. Each step whose block was taken whole is kept. After a fault the run took
-- no other step, unless the disk failed; where the output failed, or memory for the text of a block, the block of the last step may be
-- missing.
pub record AcknowledgesBlocks (full : Bool) (now : Kept) (cut : ℕ) (steps : List Step) (fault : Option Fault) (own : List ℕ) : Type 0 where
  pub blocks : List (List ℕ)
  pub part : List ℕ
  pub are : AllByRecursion IsFeedBlock blocks
  pub half : IsPart part
  pub is : own ≡ concat blocks ++ part
  pub kept : cut + (length blocks - untold_blocks full) ≤ now.least
  pub only : fault ≢ None → fault ≢ Some WriteFault → fault ≢ Some DiskFault → fault ≢ Some OutOfMemory
      → length steps ≤ length blocks - untold_blocks full
  pub last : (fault ≡ Some WriteFault) ⊎ (fault ≡ Some OutOfMemory) → length steps ≤ length blocks - untold_blocks full + 1

-- what a command has told of its steps, where the output held these bytes and holds those
abbrev pub AcknowledgesBy : CommandOf → (now : Kept) → (cut : ℕ) → List Step → Option Fault → (earlier later : List ℕ) → Type 0
AcknowledgesBy (feed_of store files full workers) now cut steps fault earlier later =
    (own : List ℕ) × (later ≡ earlier ++ own) × AcknowledgesBlocks full now cut steps fault own
-- each line of a follower tells a step
AcknowledgesBy (follow_of store files) now cut steps fault earlier later =
    Acknowledges (lines_in later - lines_in earlier) now cut steps fault (lines_in later - lines_in earlier)
AcknowledgesBy command now cut steps fault earlier later =
    Acknowledges (steps_told command) now cut steps fault (lines_in later - lines_in earlier)

-- a run of the command may come to an end at which the disk keeps this, of which so many steps stood there before
abbrev pub ComesTo : CommandOf → (start : Progress) → (now : Kept) → (cut : ℕ) → World → Option Fault → Type 0
ComesTo command start now cut old fault =
    (ending : Ending) × (ending.fault ≡ fault) × Comes (remembered old) (course_of command) start ending × (ending.done.store ≡ keeps now)
    × (ending.done.cut ≡ cut)

-- what a run makes of a history: the one that the disk kept before, where no store was opened; else the first steps of that, up to a
-- cut, and the steps whose commit the run began, by the course of its command
pub record Extends (command : CommandOf) (start : Progress) (before : Kept) (old new : World) (fault : Option Fault) : Type 0 where
  pub now : Kept
  pub cut : ℕ
  pub steps : List Step
  pub from : before.least ≤ cut
  pub to : cut ≤ before.most
  pub behind : ((now ≡ before) × (steps ≡ [])) ⊎ (now.history ≡ with_steps steps (first cut before.history))
  pub comes : ComesTo command start now cut old fault
  pub at_end : KeepsAtEnd now new fault
  pub acknowledged : BothKnown old.output.taken new.output.taken
      (λ earlier later. AcknowledgesBy command now cut steps fault earlier later)

-- over a store that was there
pub record Preserves (command : CommandOf) (before : Kept) (old new : World) (fault : Option Fault) : Type 0 where
  pub run : Extends command (begun (keeps before) before.least) before old new fault
  pub moments : LeavesPrefixes before run.now run.cut old new

-- no store was made, or none that is whole: nothing was told, and the disk reads as before, or has failed
pub record IsUnmade (old new : World) (fault : Option Fault) : Type 0 where
  pub refused : fault ≢ None
  pub disk : (fault ≡ Some DiskFault) ⊎ (new.disk.content ≡ old.disk.content)
  pub silent : BothKnown old.output.taken new.output.taken (λ earlier later. later ≡ earlier)

-- a store keeps through the run what its disk kept before; and one that the run made on an empty disk keeps the steps of the run
pub record IsSafe (command : CommandOf) (old new : World) (fault : Option Fault) : Type 0 where
  pub kept : use_of command ≡ old_store → (before : Kept) → IsKept old.disk before → Preserves command before old new fault
  pub made : use_of command ≡ new_store → old.disk.content ≡ Some []
      → IsUnmade old new fault ⊎ Extends command (begun unused 0) (whole blank) old new fault
