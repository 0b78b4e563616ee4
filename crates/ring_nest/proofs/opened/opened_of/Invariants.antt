use Rattle.std.proofs.Common.{◌≤◌, ◌-◌, length, take}
use Rattle.ring_nest.specs.Opened.{AreMeasured}
use Rattle.ring_nest.proofs.opened.opened_of.Given as goal

-- the rings so far
abbrev pub invariant-loop-at : goal.invariant-loop-at
invariant-loop-at l = record {
  within : l.at ≤ length l.rings;
  measured : AreMeasured (take l.at l.rings) l.opened.marks.items l.opened.minus.items l.opened.plus.items;
}

abbrev pub decreases-loop-at : goal.decreases-loop-at
decreases-loop-at l = length l.rings - l.at
