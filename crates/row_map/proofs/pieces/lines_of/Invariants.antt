use Rattle.std.proofs.Common.{◌≡◌, ◌++◌, drop}
use Rattle.row_rules.specs.Shape.{lines_along}
use Rattle.row_map.proofs.pieces.lines_of.Given as goal

-- the lines so far, and then those of the ways that are left
abbrev pub invariant-loop-way : goal.invariant-loop-way
invariant-loop-way g l =
    l.lines ++ lines_along (g.L.Lookup.known l.lookup).place (g.L.Lookup.known l.lookup).object (drop l.way-index l.ways)
    ≡ lines_along (g.L.Lookup.known l.lookup).place (g.L.Lookup.known l.lookup).object l.ways
