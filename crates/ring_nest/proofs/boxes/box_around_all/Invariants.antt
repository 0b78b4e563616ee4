use Rattle.std.proofs.Common.{take}
use Rattle.std.specs.List.{AllByRecursion}
use Rattle.ring_nest.specs.Around.{Covers}
use Rattle.ring_nest.proofs.boxes.box_around_all.Given as goal

-- a box around those so far
abbrev pub invariant-loop-other : goal.invariant-loop-other
invariant-loop-other l = AllByRecursion (Covers l.around) (take l.other-index l.boxes)
