-- What a command does, in the order in which it does it. A course says it as a text would: it opens the store, it reads a file,
-- it commits a step, it writes a text. What may come between, a call of the outside that fails or want of memory, is said once
-- for all courses, in Comes.
use Rattle.std.specs.Prelude.{◌≡◌, ℕ, List, Result}
use Rattle.run_promise.specs.declared.fault.Fault.{Fault}
use Rattle.update_flow.specs.State.{State, Step}

pub data Course : Type 1 where
  -- all is done
  ends : Course
  -- the command can't go on, and this is why
  refuses : Fault → Course
  -- a file is read to its end, and what it holds is what its bytes are read as
  reads : {A : Type 0} → (file : ℕ) → (List ℕ → Result A Fault → Type 0) → (A → Course) → Course
  -- the disk is looked at, and has to be empty
  wants_empty : Course → Course
  -- an empty store is made on an empty disk
  formats : Course → Course
  -- the store is opened, and stands for a state
  opens : (State → Course) → Course
  -- the store is read, and what it holds is what its state says
  looks : Course → Course
  -- the store is taken a step further, whole or not at all
  commits : Step → Course → Course
  -- this is told, which takes no memory
  tells : List ℕ → Course → Course
  -- such a text is built, and told then
  writes : (List ℕ → Type 0) → Course → Course
  -- such a block of a feed is built, and told then; whatever is known of what it says, it is one block
  feeds : (List ℕ → Type 0) → Course → Course
  -- a store of this state follows another one through a file of its feed: block by block is read, taken in one step, and told
  follows : (file : ℕ) → State → (State → Course) → Course

-- this text is built, and told then
abbrev pub writes_text : List ℕ → Course → Course
writes_text text rest = writes (λ own. own ≡ text) rest
