-- A sink in memory.
use Rattle.std.specs.Prelude.{ℕ, List, Bool}
use Rattle.doubles.specs.Calls.{CallLog}

-- the bytes taken, whether a call has failed for want of memory, and the calls so far
pub record SinkFilled : Type 0 where
  pub taken : List ℕ
  pub short : Bool
  pub calls : CallLog
