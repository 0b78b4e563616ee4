use Rattle.std.proofs.Common.{◌≡◌, take, count_by}
use Rattle.ring_nest.specs.Edges.{passes}
use Rattle.ring_nest.proofs.row.count_each.Given as goal

-- those that pass so far
abbrev pub invariant-loop-edge : goal.invariant-loop-edge
invariant-loop-edge l = l.count ≡ count_by (passes l.spot.north l.spot.east) (take l.edge-index l.edges)
