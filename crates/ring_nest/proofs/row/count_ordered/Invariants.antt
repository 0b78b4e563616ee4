use Rattle.std.proofs.Common.{◌-◌}
use Rattle.ring_nest.proofs.Ordered.{Parted}
use Rattle.ring_nest.proofs.row.count_ordered.Given as goal

abbrev pub invariant-loop-first : goal.invariant-loop-first
invariant-loop-first l = Parted l.spot.north l.spot.east l.edges l.first l.last

abbrev pub decreases-loop-first : goal.decreases-loop-first
decreases-loop-first l = l.last - l.first
