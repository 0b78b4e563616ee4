use Rattle.std.proofs.Common.{◌≡◌, ◌≤◌, ◌-◌, length, map, take}
use Rattle.ring_nest.specs.Holders.{few_of, holders_in}
use Rattle.ring_nest.proofs.holders.holders_of_each.Given as goal

-- the holders of the rings so far
abbrev pub invariant-loop-at : goal.invariant-loop-at
invariant-loop-at l = record {
  within : l.at ≤ length l.rings;
  counted : l.depths.items ≡ map (λ ring. length (holders_in l.rings l.tree.root.now ring)) (take l.at l.rings);
  kept : l.few.items ≡ map (λ ring. few_of (holders_in l.rings l.tree.root.now ring)) (take l.at l.rings);
}

abbrev pub decreases-loop-at : goal.decreases-loop-at
decreases-loop-at l = length l.rings - l.at
