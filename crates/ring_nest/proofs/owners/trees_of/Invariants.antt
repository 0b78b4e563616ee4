use Rattle.std.proofs.Common.{◌≤◌, ◌-◌, length}
use Rattle.ring_nest.specs.DepthTrees.{HasTrees}
use Rattle.ring_nest.proofs.owners.trees_of.Given as goal

-- the trees so far
abbrev pub invariant-loop-at : goal.invariant-loop-at
invariant-loop-at l = record {
  within : l.at ≤ length l.lists;
  so_far : HasTrees l.boxes l.lists l.at l.trees.items;
}

abbrev pub decreases-loop-at : goal.decreases-loop-at
decreases-loop-at l = length l.lists - l.at
