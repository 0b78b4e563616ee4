-- How far a run has come, and how it ended.
use Rattle.std.specs.Prelude.{◌≡◌, ◌⊎◌, ℕ, List, [], ◌∷◌, ◌++◌, Option, Some, None}
use Rattle.update_flow.specs.State.{Step}
use Rattle.run_promise.specs.declared.fault.Fault.{Fault}
use Rattle.run_promise.specs.Keeps.{Kept, blank, first, perhaps, whole, with_step}

-- what is known of the disk: it was at most looked at; nothing; it keeps a history; or the making of a store was cut short
pub data Standing : Type 0 where
  unused : Standing
  unknown : Standing
  keeps : Kept → Standing
  half_made : Standing

-- what was done whole: what became of the disk, and from which step of its history on it is this run that takes it further;
-- the files that were read, the last one first; and the text that was written
pub record Progress : Type 0 where
  pub store : Standing
  pub cut : ℕ
  pub read : List ℕ
  pub written : List ℕ

-- how a run ended: what was done whole, the file that it was reading, the text that it was writing, and why
pub record Ending : Type 0 where
  pub done : Progress
  pub reading : Option ℕ
  pub writing : List ℕ
  pub fault : Option Fault

-- nothing is done yet
abbrev pub begun : Standing → ℕ → Progress
begun store cut = record { store = store; cut = cut; read = []; written = [] }

-- with nothing done by half
abbrev pub at : Progress → Option Fault → Ending
at done fault = record { done = done; reading = None; writing = []; fault = fault }

-- in the middle of a file
abbrev pub at_file : ℕ → Progress → Fault → Ending
at_file file done fault = record { done = done; reading = Some file; writing = []; fault = Some fault }

-- in the middle of a text
abbrev pub at_text : List ℕ → Progress → Fault → Ending
at_text text done fault = record { done = done; reading = None; writing = text; fault = Some fault }

-- in the middle of a file that is read on behind this
abbrev pub within_file : ℕ → Ending → Ending
within_file file ending = record ending { reading = Some file }

-- after a file was read to its end
abbrev pub past : ℕ → Progress → Progress
past file done = record done { read = file ∷ done.read }

-- after a text was written
abbrev pub plus : List ℕ → Progress → Progress
plus text done = record done { written = done.written ++ text }

-- with another standing of the disk
abbrev pub with_store : Standing → Progress → Progress
with_store store done = record done { store = store }

-- a store that was made on a disk, which keeps its history where the disk tells what it holds
abbrev pub made : Option (List ℕ) → Standing
made None = unknown
made (Some bytes) = keeps (whole blank)

-- after the store was opened, which has so many steps of its history
abbrev pub opened : Kept → ℕ → Progress → Progress
opened kept cut done = record done { store = keeps (whole (first cut kept.history)); cut = cut }

-- after a step was committed
abbrev pub committed : Step → Kept → Progress → Progress
committed step kept done = with_store (keeps (with_step step kept)) done

-- after the commit of a step was begun and cut short
abbrev pub in_doubt : Step → Kept → Progress → Progress
in_doubt step kept done = with_store (keeps (perhaps step kept)) done

-- the file is among these
abbrev pub IsIn : List ℕ → ℕ → Type 0
IsIn [] file = ⊥
IsIn (one ∷ others) file = (file ≡ one) ⊎ IsIn others file
