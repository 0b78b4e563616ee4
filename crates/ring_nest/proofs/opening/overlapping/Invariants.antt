use Rattle.std.proofs.Common.{◌≡◌, take}
use Rattle.std.specs.List.{filter}
use Rattle.ring_nest.specs.Opening.{overlaps}
use Rattle.ring_nest.proofs.opening.overlapping.Given as goal

-- those so far
abbrev pub invariant-loop-edge : goal.invariant-loop-edge
invariant-loop-edge l = l.found.items ≡ filter (overlaps l.low l.high) (take l.edge-index l.edges)
