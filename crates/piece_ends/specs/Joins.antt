-- Lines joined out of pieces at their ends.
-- OGC Simple Features, "MultiLineString": the lines of a relation's ways, joined where they meet.
use Rattle.std.specs.Prelude.{List, length, reverse, if◌then◌else◌}
use Rattle.piece_ends.specs.Pieces.{Line, is_closed}
use Rattle.piece_ends.specs.Walk.{extended, lines_by}

-- a line and the pieces that are left, after the same walk at its first place
abbrev pub extended_at_first : Line → List Line → Line × List Line
extended_at_first line unused =
    let turned = extended (length unused) (reverse line) unused in
    (reverse turned.0, turned.1)

-- the line that a piece begins: it grows at its last place and, if its ends differ, at its first
abbrev pub line_begun : Line → List Line → Line × List Line
line_begun piece unused =
    let forward = extended (length unused) piece unused in
    if is_closed forward.0 then forward else extended_at_first forward.0 forward.1

-- the joined lines of pieces
abbrev pub joined_lines : List Line → List Line
joined_lines pieces = lines_by line_begun pieces
