use Rattle.std.proofs.Common.{◌≡◌, take}
use Rattle.osm_base.proofs.values.same.Same.are_same.Given as goal

-- the values so far stand in both lists
abbrev pub invariant-loop-index : goal.invariant-loop-index
invariant-loop-index g l = take l.index l.items ≡ take l.index l.others
