use Rattle.std.proofs.Common.{take, true}
use Rattle.ring_nest.specs.Holders.{IsLeast}
use Rattle.ring_nest.proofs.owners.least_of.Given as goal

-- the least of the numbers so far
abbrev pub invariant-loop-number : goal.invariant-loop-number
invariant-loop-number l = IsLeast (λ _. true) (take l.number-index l.numbers) l.least
