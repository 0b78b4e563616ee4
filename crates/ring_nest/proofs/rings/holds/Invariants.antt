use Rattle.std.proofs.Common.{◌≡◌, drop}
use Rattle.lanes_geo.specs.Nesting.{first_off}
use Rattle.ring_nest.proofs.rings.holds.Given as goal

-- it is told by what is left
abbrev pub invariant-loop-place : goal.invariant-loop-place
invariant-loop-place l = first_off l.ring (drop l.place-index l.other) ≡ first_off l.ring l.other
