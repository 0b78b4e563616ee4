use Rattle.std.proofs.Common.{◌≡◌, map, take}
use Rattle.ring_nest.specs.Holders.{box_at}
use Rattle.ring_nest.proofs.tree.leaf_of.Given as goal

-- the boxes so far
abbrev pub invariant-loop-number : goal.invariant-loop-number
invariant-loop-number l = l.own_boxes.items ≡ map (box_at l.boxes) (take l.number-index l.number-items)
