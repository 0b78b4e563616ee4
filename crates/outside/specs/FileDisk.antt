-- A disk that tells nothing but its count of faults, since no proof says what a file holds.
use Rattle.std.specs.Prelude.{ℕ, None}
use Rattle.outside.specs.Disk.{DiskView}

-- such a disk. Whatever is said of what it tells, or of each outcome of a crash, holds.
abbrev pub silent : ℕ → DiskView
silent faults = record {
  content = None;
  crashes = record { moment = 0; outcomes = λ left. ⊥; outcomes_since = λ since left. ⊥ };
  faults = faults;
  reads = None;
}
