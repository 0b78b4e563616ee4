use Rattle.std.proofs.Common.{◌≡◌, ◌≤◌, drop, min}
use Rattle.lanes_geo.specs.Grid.{least_of}
use Rattle.lanes_geo.proofs.spans.lowest.Given as goal

-- the least so far, and that of what is left
abbrev pub invariant-loop-lane : goal.invariant-loop-lane
invariant-loop-lane l = (l.least ≤ 4294967295) × (min l.least (least_of (drop l.lane-index l.lane-items)) ≡ least_of l.lane-items)
