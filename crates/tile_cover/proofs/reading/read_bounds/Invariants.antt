use Rattle.std.proofs.Common.{length}
use Rattle.tile_cover.proofs.Tables.{IsRead}
use Rattle.tile_cover.proofs.reading.read_bounds.Given as goal

-- what is read, and then what is left
abbrev pub invariant-loop-rest : goal.invariant-loop-rest
invariant-loop-rest l = IsRead l.fn.bytes l.lats.items l.before l.rest

abbrev pub decreases-loop-rest : goal.decreases-loop-rest
decreases-loop-rest l = length l.rest
