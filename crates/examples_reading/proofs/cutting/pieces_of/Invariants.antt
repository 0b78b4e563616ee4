-- the rest becomes shorter
use Rattle.std.proofs.Common.{length}
use Rattle.examples_reading.proofs.cutting.pieces_of.Given as goal

abbrev pub decreases-loop-rest : goal.decreases-loop-rest
decreases-loop-rest l = length l.rest
