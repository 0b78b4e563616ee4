-- What contracts see of bytes with the calls that made them.
use Rattle.std.specs.Prelude.{ℕ, List, Result, [], ◌∷◌, ◌++◌, ◌≡◌, OnOk, OnErr}
use Rattle.outside.specs.Disk.{Crashes, Elapses}
use Rattle.doubles.specs.Recorded.{first_bytes}
use Rattle.doubles.specs.Tape.{crashes_of}
use Rattle.doubles.specs.declared.tape.Call.{Call}
use Rattle.doubles.specs.declared.recorded.Recorded.{Recorded}

abbrev pub bytes_of : Recorded → List ℕ
bytes_of recorded = recorded.bytes.items

abbrev pub start_of : Recorded → List ℕ
start_of recorded = first_bytes recorded.start recorded.bytes.items

abbrev pub calls_in : Recorded → List Call
calls_in recorded = recorded.calls.items

abbrev pub crashes_in : Recorded → Crashes
crashes_in recorded = crashes_of (start_of recorded) recorded.calls.items

-- a call is kept behind those before, or the answer is an error and it is not; later moments of a crash follow those before
pub record Keeps {T E : Type 0} (old new : Recorded) (call : Call) (result : Result T E) : Type 0 where
  pub kept : OnOk result (calls_in new ≡ calls_in old ++ call ∷ [])
  pub lost : OnErr result (calls_in new ≡ calls_in old)
  pub start : start_of new ≡ start_of old
  pub time : Elapses (crashes_in old) (crashes_in new)
