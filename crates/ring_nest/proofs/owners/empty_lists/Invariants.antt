use Rattle.std.proofs.Common.{◌≡◌, [], replicate}
use Rattle.ring_nest.proofs.owners.empty_lists.Given as goal

-- the lists so far
abbrev pub invariant-loop-number : goal.invariant-loop-number
invariant-loop-number l = l.lists.items ≡ replicate l._number []
