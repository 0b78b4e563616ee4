use Rattle.std.proofs.Common.{length}
use Rattle.std.specs.List.{AllByRecursion}
use Rattle.ring_nest.specs.Edges.{AreWest, Spans}
use Rattle.ring_nest.proofs.row.are_west.Given as goal

-- all edges stand in order where those that are left do
abbrev pub invariant-loop-rest : goal.invariant-loop-rest
invariant-loop-rest l = record {
  spans : AllByRecursion (Spans l.band.low l.band.high) l.rest;
  west : AreWest l.rest → AreWest l.edges;
}

abbrev pub decreases-loop-rest : goal.decreases-loop-rest
decreases-loop-rest l = length l.rest
