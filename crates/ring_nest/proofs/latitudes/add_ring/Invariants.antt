use Rattle.std.proofs.Common.{◌≡◌, ◌++◌, map, take}
use Rattle.lanes_geo.specs.Grid.{north_of}
use Rattle.ring_nest.proofs.latitudes.add_ring.Given as goal

-- those of the places so far
abbrev pub invariant-loop-place : goal.invariant-loop-place
invariant-loop-place l = l.lats.items ≡ l.initial.lats.items ++ map north_of (take l.place-index l.ring)
