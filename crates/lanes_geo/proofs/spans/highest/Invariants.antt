use Rattle.std.proofs.Common.{◌≡◌, drop, max}
use Rattle.lanes_geo.specs.Grid.{greatest_of}
use Rattle.lanes_geo.proofs.spans.highest.Given as goal

-- the greatest so far, and that of what is left
abbrev pub invariant-loop-lane : goal.invariant-loop-lane
invariant-loop-lane l = max l.greatest (greatest_of (drop l.lane-index l.lane-items)) ≡ greatest_of l.lane-items
