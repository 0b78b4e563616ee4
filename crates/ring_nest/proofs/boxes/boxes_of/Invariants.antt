use Rattle.std.proofs.Common.{◌≡◌, map, take}
use Rattle.std.specs.List.{AllByRecursion}
use Rattle.ring_nest.specs.Around.{IsBoxed, around}
use Rattle.ring_nest.proofs.boxes.boxes_of.Given as goal

-- the boxes of the rings so far
abbrev pub invariant-loop-ring : goal.invariant-loop-ring
invariant-loop-ring l = (l.boxes.items ≡ map around (take l.ring-index l.rings)) × AllByRecursion IsBoxed (take l.ring-index l.rings)
