use Rattle.std.proofs.Common.{◌≡◌, take}
use Rattle.std.specs.List.{filter}
use Rattle.ring_nest.specs.Slabs.{is_north}
use Rattle.ring_nest.proofs.slabs.north_of.Given as goal

-- those so far
abbrev pub invariant-loop-edge : goal.invariant-loop-edge
invariant-loop-edge l = l.found.items ≡ filter (is_north l.low l.middle l.high) (take l.edge-index l.edges)
