use Rattle.std.proofs.Common.{length}
use Rattle.example_table.proofs.escape.bytes_of.Given as goal

abbrev pub decreases-loop-byte : goal.decreases-loop-byte
decreases-loop-byte l = length l.rest
