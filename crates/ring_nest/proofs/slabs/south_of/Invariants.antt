use Rattle.std.proofs.Common.{◌≡◌, take}
use Rattle.std.specs.List.{filter}
use Rattle.ring_nest.specs.Slabs.{is_south}
use Rattle.ring_nest.proofs.slabs.south_of.Given as goal

-- those so far
abbrev pub invariant-loop-edge : goal.invariant-loop-edge
invariant-loop-edge l = l.found.items ≡ filter (is_south l.low l.middle l.high) (take l.edge-index l.edges)
