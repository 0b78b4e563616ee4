-- The lines of a whole file, and the limit that they pass first.
use Rattle.std.specs.Prelude.{◌≡◌, ℕ, zero, suc, ◌-◌, nat_lt, if◌then◌else◌, Option, None, Some, List, [], ◌∷◌, ◌++◌, length, map, Vec}
use Rattle.std.specs.Global.{Global}
use Rattle.opl_lines.specs.declared.fault.LineFault.{LineFault}
use Rattle.opl_lines.specs.declared.fault.LineFault.TheVariants.{LineBytes, FileLines}
use Rattle.opl_lines.specs.Lines.{lines_of}
use Rattle.opl_lines.specs.Reading.{Reading, begun}

-- lines by their bytes
abbrev pub texts : List (Vec ℕ Global) → List (List ℕ)
texts lines = map (λ (line : Vec ℕ Global). line.items) lines

-- the first limit that these lines pass, where each may have so many bytes and so many lines may come
unfoldable pub limit_passed : ℕ → ℕ → List (List ℕ) → Option LineFault
limit_passed line_bytes lines [] = None
limit_passed line_bytes zero (line ∷ later) = Some FileLines
limit_passed line_bytes (suc lines) (line ∷ later) =
    if nat_lt line_bytes (length line) then Some LineBytes else limit_passed line_bytes lines later

-- the limit that is passed where these bytes are left to a reader
abbrev pub limit_left : Reading → List ℕ → Option LineFault
limit_left reading rest = limit_passed reading.line_bytes (reading.lines - reading.number) (lines_of (begun reading ++ rest))

-- A reader took a piece, and lines were added to those before. Whatever bytes follow, the lines of the file and the
-- limit that they pass are what they were.
pub record GoesOn (old new : Reading) (before after : List (List ℕ)) (piece : List ℕ) : Type 0 where
  pub lines_kept : (later : List ℕ) → after ++ lines_of (begun new ++ later) ≡ before ++ lines_of (begun old ++ (piece ++ later))
  pub limit_kept : (later : List ℕ) → limit_left new later ≡ limit_left old (piece ++ later)
  pub no_fault : new.failed ≡ None
