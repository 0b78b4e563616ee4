use Rattle.std.proofs.Common.{◌≡◌, take}
use Rattle.ring_nest.specs.Latitudes.{at_latitude}
use Rattle.ring_nest.proofs.latitudes.places_at.Given as goal

-- those so far
abbrev pub invariant-loop-place : goal.invariant-loop-place
invariant-loop-place l = l.count ≡ at_latitude l.north (take l.place-index l.ring)
