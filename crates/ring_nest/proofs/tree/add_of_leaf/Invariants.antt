use Rattle.std.proofs.Common.{◌≡◌, ◌≤◌, ◌-◌, ◌++◌, length, take}
use Rattle.std.specs.List.{filter}
use Rattle.lanes_geo.specs.Nesting.{ring_at}
use Rattle.ring_nest.specs.Holders.{is_holder}
use Rattle.ring_nest.proofs.tree.add_of_leaf.Given as goal

-- the holders so far, behind those of before
abbrev pub invariant-loop-at : goal.invariant-loop-at
invariant-loop-at l = record {
  within : l.at ≤ length l.leaf.numbers.items;
  holders_so_far : l.found.items ≡ l.initial.found.items
      ++ filter (is_holder l.rings (ring_at l.rings l.number)) (take l.at l.leaf.numbers.items);
}

abbrev pub decreases-loop-at : goal.decreases-loop-at
decreases-loop-at l = length l.leaf.numbers.items - l.at
