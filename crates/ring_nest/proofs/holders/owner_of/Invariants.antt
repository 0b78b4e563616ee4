use Rattle.std.proofs.Common.{take}
use Rattle.ring_nest.specs.Holders.{IsLeast, is_above}
use Rattle.ring_nest.proofs.holders.owner_of.Given as goal

-- the least of the numbers so far
abbrev pub invariant-loop-number : goal.invariant-loop-number
invariant-loop-number l = IsLeast (is_above l.depths l.depth) (take l.number-index l.holders) l.owner
