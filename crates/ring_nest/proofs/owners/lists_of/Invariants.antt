use Rattle.std.proofs.Common.{◌≤◌, ◌-◌, length}
use Rattle.ring_nest.specs.DepthTrees.{HasLists}
use Rattle.ring_nest.proofs.owners.lists_of.Given as goal

-- the numbers so far
abbrev pub invariant-loop-at : goal.invariant-loop-at
invariant-loop-at l = record {
  within : l.at ≤ length l.depths;
  so_far : HasLists l.depths l.at l.lists.items;
}

abbrev pub decreases-loop-at : goal.decreases-loop-at
decreases-loop-at l = length l.depths - l.at
