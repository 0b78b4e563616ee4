-- the rest becomes shorter
use Rattle.std.proofs.Common.{length}
use Rattle.examples_reading.proofs.cutting.read_lines.Given as goal

abbrev pub decreases-loop-rest : goal.decreases-loop-rest
decreases-loop-rest l = length l.rest
