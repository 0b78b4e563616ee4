use Rattle.std.proofs.Common.{length}
use Rattle.due_tiles.specs.Spelling.{HasRead}
use Rattle.due_tiles.proofs.spelling.decode.Given as goal

-- so far the bytes are those of the set
abbrev pub invariant-loop-rest : goal.invariant-loop-rest
invariant-loop-rest l = HasRead l.bytes l.set l.rest

abbrev pub decreases-loop-rest : goal.decreases-loop-rest
decreases-loop-rest l = length l.rest
