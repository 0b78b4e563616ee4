-- The lines of a file.
-- osmium manual, "OPL File Format": a file is a sequence of lines, each ended by a newline, the byte 10.
-- A last line that no newline ends counts where it has at least one byte.
use Rattle.std.specs.Prelude.{◌≢◌, ℕ, List, [], ◌∷◌, ◌==◌, if◌then◌else◌, All}
use Rattle.std.specs.List.{onto_first}
use Rattle.opl_lines.specs.declared.reader.TheConstants.{NEWLINE}

-- the lines of these bytes, each without its newline
unfoldable pub lines_of : List ℕ → List (List ℕ)
lines_of [] = []
lines_of (byte ∷ bytes) = if byte == NEWLINE then [] ∷ lines_of bytes else onto_first byte (lines_of bytes)

-- the first of these lines; an empty one where there is none
abbrev pub first_of : List (List ℕ) → List ℕ
first_of [] = []
first_of (line ∷ lines) = line

-- the first line of these bytes, as far as they go
abbrev pub first_line : List ℕ → List ℕ
first_line bytes = first_of (lines_of bytes)

-- these bytes lie within one line: none of them is a newline
abbrev pub IsWithinLine : List ℕ → Type 0
IsWithinLine bytes = All (λ byte. byte ≢ NEWLINE) bytes
