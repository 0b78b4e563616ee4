use Rattle.std.proofs.Common.{◌≡◌, map}
use Rattle.grid_index.proofs.search.keys_of.Given as goal

-- the keys so far
abbrev pub invariant-loop-spot : goal.invariant-loop-spot
invariant-loop-spot l = l.keys ≡ map (λ entry. entry.0.now.key) l.yielded
