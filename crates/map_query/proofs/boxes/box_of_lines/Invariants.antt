use Rattle.std.proofs.Common.{◌≡◌, take}
use Rattle.lanes_geo.specs.Box.{box_of}
use Rattle.map_query.specs.Answer.{line_places}
use Rattle.map_query.proofs.boxes.box_of_lines.Given as goal

-- the box so far is that of the lines so far
abbrev pub invariant-loop-line : goal.invariant-loop-line
invariant-loop-line l = l.around ≡ box_of (line_places (take l.line-index l.lines))
