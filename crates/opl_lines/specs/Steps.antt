-- The steps of which a take consists.
use Rattle.std.specs.Prelude.{◌≡◌, ℕ, ◌+◌, ◌<◌, ◌≤◌, Bool, None, List, [], ◌∷◌, ◌++◌, length, drop, MatchOption, if◌then◌else◌}
use Rattle.opl_lines.specs.declared.reader.TheConstants.{NEWLINE}
use Rattle.opl_lines.specs.declared.fault.LineFault.TheVariants.{LineBytes}
use Rattle.opl_lines.specs.Lines.{IsWithinLine}
use Rattle.opl_lines.specs.Reading.{Reading, begun}

-- the bytes of a piece before its first newline, and whether it has one
pub record IsFront (piece front : List ℕ) (ends : Bool) : Type 0 where
  pub within_line : IsWithinLine front
  pub parts : piece ≡ front ++ (if ends then NEWLINE ∷ drop (length front + 1) piece else [])

-- the line is the first of the bytes, a newline ends it, and these bytes stand behind that
pub record IsFirstLine (bytes line behind : List ℕ) : Type 0 where
  pub within_line : IsWithinLine line
  pub parts : bytes ≡ line ++ NEWLINE ∷ behind

-- the line that is begun may grow by so many bytes
pub record Admits (reading : Reading) (more : ℕ) : Type 0 where
  pub no_fault : reading.failed ≡ None
  pub counted : reading.number < reading.lines
  pub fits : length (begun reading) + more ≤ reading.line_bytes

-- it may not, as it becomes too long
abbrev pub GrowsTooLong : Reading → ℕ → Type 0
GrowsTooLong reading more = MatchOption reading.failed
    ((reading.number < reading.lines) × (reading.line_bytes < length (begun reading) + more))
    (λ fault. fault ≡ LineBytes)

-- the line that is begun with bytes at its end, where a newline may end it
abbrev pub grown : Reading → List ℕ → Bool → Reading
grown reading bytes ends = record reading {
  line = begun reading ++ bytes;
  whole = ends;
  number = reading.number + (if ends then 1 else 0);
}
