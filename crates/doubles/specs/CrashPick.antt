-- What a crash in a call of a disk in memory leaves, where the ranges that were written since the last sync hold
-- what a pick says.
use Rattle.std.specs.Prelude.{◌≡◌, ℕ, ◌-◌, ◌/◌, ◌<◌, ◌≤◌, List, [], ◌∷◌, Bool, true, false, length, take, replicate, slice_get, slice_range}
use Rattle.std.specs.Prelude.{Some}
use Rattle.outside.specs.Disk.{overlaid}
use Rattle.doubles.specs.Tape.{fresh, run}
use Rattle.doubles.specs.declared.crash_pick.CrashPick.{CrashPick}
use Rattle.doubles.specs.declared.crash_pick.CrashPick.TheVariants.{Old, New, Half, Garbage}
use Rattle.doubles.specs.declared.tape.Call.{Call}
use Rattle.doubles.specs.declared.tape.Call.TheVariants.{Look, Write, Sync}

-- a content after a write of this piece that a crash cut short
abbrev pub half_written : CrashPick → ℕ → List ℕ → List ℕ → List ℕ
half_written Old at piece content = content
half_written New at piece content = overlaid at piece content
half_written Half at piece content = overlaid at (take (length piece / 2) piece) content
half_written (Garbage byte) at piece content = overlaid at (replicate (length piece) byte) content

-- a content after a call that a crash cut short
abbrev pub cut_short : CrashPick → Call → List ℕ → List ℕ
cut_short pick Look content = content
cut_short pick (Write at piece done) content = half_written pick at piece content
cut_short pick (Sync done) content = content

-- a content after calls that a crash cut short, one after another
abbrev pub all_cut_short : CrashPick → List Call → List ℕ → List ℕ
all_cut_short pick [] content = content
all_cut_short pick (call ∷ calls) content = all_cut_short pick calls (cut_short pick call content)

-- a sync that succeeded
abbrev pub settles : Call → Bool
settles (Sync done) = done
settles _ = false

-- of the first calls, up to `before`, those from this number on are no syncs that succeeded, and the one in front
-- of it is, unless there is none
pub record IsSettled (calls : List Call) (before settled : ℕ) : Type 0 where
  pub within : settled ≤ before
  pub last : 0 < settled → (call : Call) × (slice_get calls (settled - 1) ≡ Some call) × (settles call ≡ true)
  pub quiet : (i : ℕ) (call : Call) → settled ≤ i → i < before → slice_get calls i ≡ Some call → settles call ≡ false

-- what a crash in the call with this number leaves: what the last sync before it left, and then each later call cut
-- short
pub record IsLeftIn (pick : CrashPick) (start : List ℕ) (calls : List Call) (number : ℕ) (left : List ℕ) : Type 0 where
  pub settled : ℕ
  pub sync : IsSettled calls (number - 1) settled
  pub content : left ≡ all_cut_short pick (slice_range calls settled number) (run (fresh start) (take settled calls)).seen
