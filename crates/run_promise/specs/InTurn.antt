-- Which file a fault names.
use Rattle.std.specs.Prelude.{◌≡◌, ◌≤◌, ◌<◌, ℕ, [], Option, Some}
use Rattle.outside.specs.Bytes.{IfTold}
use Rattle.run_promise.specs.declared.fault.Fault.{Fault}
use Rattle.run_promise.specs.declared.fault.Fault.TheVariants.{Malformed, BadStyle, BadBounds, BadQuery, BadFeed, Gap, ReadFault}
use Rattle.run_promise.specs.CommandOf.{CommandOf, Names}
use Rattle.run_promise.specs.Reading.{Accepts, ReadsFirst}
use Rattle.run_promise.specs.Progress.{Ending, IsIn}
use Rattle.run_promise.specs.World.{Before}

-- the fault names this file
abbrev pub FaultNames : Option Fault → ℕ → Type 0
FaultNames (Some (Malformed own line why)) file = own ≡ file
FaultNames (Some (BadStyle own why part)) file = own ≡ file
FaultNames (Some (BadBounds own line)) file = own ≡ file
FaultNames (Some (BadQuery own line why)) file = own ≡ file
FaultNames (Some (BadFeed own line why)) file = own ≡ file
FaultNames (Some (Gap own have got)) file = own ≡ file
FaultNames (Some (ReadFault own)) file = own ≡ file
FaultNames _ file = ⊥

-- The file is one of the command's. Those before it were read to their ends, and are accepted where they are told; it and those
-- behind it were not. Nothing was written by a command that writes when all is read, and of no text a part.
pub record IsInTurn (command : CommandOf) (old : Before) (ending : Ending) (file : ℕ) : Type 0 where
  pub named : Names command file
  pub reading : ending.reading ≡ Some file
  pub read : (other : ℕ) → Names command other → other < file → IsIn ending.done.read other
  pub accepted : (other : ℕ) → Names command other → other < file → IfTold (old.left other) (Accepts command other)
  pub untouched : (other : ℕ) → file ≤ other → ¬ IsIn ending.done.read other
  pub unwritten : ReadsFirst command → ending.done.written ≡ []
  pub unbegun : ending.writing ≡ []
