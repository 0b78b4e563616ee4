-- How far a reader of lines has come.
use Rattle.std.specs.Prelude.{◌≡◌, ◌≢◌, ℕ, ◌+◌, ◌-◌, ◌*◌, ◌<◌, ◌≤◌, Bool, true, false, Option, None, Some, List, [], ◌++◌, length}
use Rattle.std.specs.Prelude.{MatchOption, if◌then◌else◌}
use Rattle.opl_lines.specs.declared.fault.LineFault.{LineFault}
use Rattle.opl_lines.specs.declared.fault.LineFault.TheVariants.{LineBytes, FileLines, OutOfMemory}
use Rattle.opl_lines.specs.Lines.{first_line, IsWithinLine}

-- The line that is kept and whether it has ended, how many lines have ended, the greatest length of a
-- line, the greatest number of lines, and the limit that was passed.
pub record Reading : Type 0 where
  pub line : List ℕ
  pub whole : Bool
  pub number : ℕ
  pub line_bytes : ℕ
  pub lines : ℕ
  pub failed : Option LineFault

-- the bytes of the line that the next byte continues; after a whole line it begins a new one
abbrev pub begun : Reading → List ℕ
begun reading = if reading.whole then [] else reading.line

-- no byte has been taken yet
abbrev pub start : ℕ → ℕ → Reading
start line_bytes lines =
    record { line = []; whole = true; number = 0; line_bytes = line_bytes; lines = lines; failed = None }

-- what holds of each reader: the lines that have ended and the one that is begun keep both limits
pub record KeepsLimits (reading : Reading) : Type 0 where
  pub counted : reading.number ≤ reading.lines
  pub fits : length (begun reading) ≤ reading.line_bytes
  pub within_line : IsWithinLine (begun reading)
  pub has_bytes : reading.whole ≡ false → 0 < length reading.line
  pub next_counted : reading.whole ≡ false → reading.number < reading.lines
  pub failed_by_limit : reading.failed ≢ Some OutOfMemory

-- how many bytes a reader may still take, at most
unfoldable pub room : Reading → ℕ
room reading = (reading.lines - reading.number) * (reading.line_bytes + 2) - length (begun reading)

-- a byte that comes now belongs to a line past the greatest number of lines
abbrev pub PassesFileLines : Reading → Type 0
PassesFileLines reading = MatchOption reading.failed (reading.number ≡ reading.lines) (λ fault. fault ≡ FileLines)

-- with these bytes a line whose number is within the limit becomes longer than a line may be
abbrev pub PassesLineBytes : Reading → List ℕ → Type 0
PassesLineBytes reading piece = MatchOption reading.failed
    ((reading.number < reading.lines) × (reading.line_bytes < length (first_line (begun reading ++ piece))))
    (λ fault. fault ≡ LineBytes)

-- what a fault leaves: a limit that was passed stays passed, and want of memory changes nothing
abbrev pub after_fault : Reading → LineFault → Reading
after_fault reading LineBytes = record reading { failed = Some LineBytes }
after_fault reading FileLines = record reading { failed = Some FileLines }
after_fault reading OutOfMemory = reading

-- the line that was begun has ended
abbrev pub ended : Reading → Reading
ended reading = record reading { whole = true; number = reading.number + 1 }
