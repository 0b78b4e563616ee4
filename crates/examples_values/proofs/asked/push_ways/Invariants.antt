-- No question was refused so far.
use Rattle.std.proofs.Common.{◌≡◌, false}
use Rattle.examples_values.proofs.asked.push_ways.Given as goal

abbrev pub invariant-loop-node : goal.invariant-loop-node
invariant-loop-node g l = g.B.Back.spent l.back ≡ false
