use Rattle.std.proofs.Common.{◌≡◌, ◌≤◌, ◌++◌, drop, vec_len}
use Rattle.ring_nest.specs.Polygons.{slots_from}
use Rattle.ring_nest.proofs.polygons.slots_of.Given as goal

-- the places so far, and those of what is left
abbrev pub invariant-loop-depth : goal.invariant-loop-depth
invariant-loop-depth l = (vec_len l.slots ≡ l.depth-index) × (l.place ≤ l.depth-index)
    × (l.slots.items ++ slots_from l.place (drop l.depth-index l.depths) ≡ slots_from 0 l.depths)
