-- What a reader does with a piece of a file.
use Rattle.std.specs.Prelude.{◌≡◌, ◌↔◌, ℕ, ◌+◌, ◌<◌, ◌≤◌, Option, None, Some, List, [], ◌∷◌, ◌++◌, length, take, drop, IfSome, IfNone}
use Rattle.std.specs.Prelude.{IsSome, Contains}
use Rattle.std.specs.Option.{option_to_list}
use Rattle.opl_lines.specs.declared.reader.TheConstants.{NEWLINE}
use Rattle.opl_lines.specs.declared.fault.LineFault.{LineFault}
use Rattle.opl_lines.specs.declared.fault.LineFault.TheVariants.{LineBytes, FileLines}
use Rattle.opl_lines.specs.declared.reader.Line.{Line}
use Rattle.opl_lines.specs.declared.reader.Line.TheVariants.{InPiece, InReader, Open}
use Rattle.opl_lines.specs.Lines.{lines_of, first_line, IsWithinLine}
use Rattle.opl_lines.specs.Reading.{Reading, begun, room, after_fault}

-- the line that ended, if one did, where a reader keeps this line
abbrev pub ended_line : Line → List ℕ → Option (List ℕ)
ended_line (InPiece line) kept = Some line.now
ended_line InReader kept = Some kept
ended_line Open kept = None

-- A reader took the first `used` bytes of a piece, up to and with its first newline, or all of it.
-- A newline ends the line.
pub record Takes (old new : Reading) (piece : List ℕ) (used : ℕ) (line : Option (List ℕ)) : Type 0 where
  -- whatever bytes follow, the line that ended is the first of the file's lines from here on
  pub lines_of_rest : (later : List ℕ) → lines_of (begun old ++ (piece ++ later))
      ≡ option_to_list line ++ lines_of (begun new ++ (drop used piece ++ later))
  pub ends_at_newline : IsSome line ↔ Contains piece NEWLINE
  pub line_taken : IfSome line (λ bytes. IsWithinLine bytes × (begun old ++ take used piece ≡ bytes ++ NEWLINE ∷ []) × (begun new ≡ []))
  pub all_taken : IfNone line ((used ≡ length piece) × (begun new ≡ begun old ++ piece))
  pub takes_some : 1 ≤ used
  pub within_piece : used ≤ length piece
  pub counted : new.number ≡ old.number + length (option_to_list line)
  pub number_kept : new.number ≤ old.lines
  pub length_kept : IfSome line (λ bytes. length bytes ≤ old.line_bytes)
  pub same_limits : (new.line_bytes ≡ old.line_bytes) × (new.lines ≡ old.lines)
  pub no_fault : (old.failed ≡ None) × (new.failed ≡ None)
  pub less_room : room new + used ≤ room old

-- A reader did not take this piece. Where no limit was passed before, the whole file shows that one is now:
-- whatever bytes follow, the line after those that ended is too long, or there is a line more than there may be.
pub record Refuses (old new : Reading) (piece : List ℕ) (fault : LineFault) : Type 0 where
  pub state : new ≡ after_fault old fault
  pub too_long : fault ≡ LineBytes → old.failed ≡ None → (later : List ℕ)
      → (old.number < old.lines) × (old.line_bytes < length (first_line (begun old ++ (piece ++ later))))
  pub too_many : fault ≡ FileLines → old.failed ≡ None → (later : List ℕ)
      → (old.number ≡ old.lines) × (0 < length (lines_of (begun old ++ (piece ++ later))))
