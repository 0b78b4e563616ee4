use Rattle.std.proofs.Common.{◌≡◌, ◌≤◌, ◌-◌, length, map, take}
use Rattle.ring_nest.specs.Holders.{inner_owner}
use Rattle.ring_nest.proofs.holders.owners_of.Given as goal

-- the owners of the rings so far
abbrev pub invariant-loop-at : goal.invariant-loop-at
invariant-loop-at l = record {
  within : l.at ≤ length l.rings;
  owners_so_far : l.owners.items ≡ map (inner_owner l.rings) (take l.at l.rings);
}

abbrev pub decreases-loop-at : goal.decreases-loop-at
decreases-loop-at l = length l.rings - l.at
