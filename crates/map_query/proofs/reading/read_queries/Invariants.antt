use Rattle.std.proofs.Common.{length}
use Rattle.map_query.proofs.Walk.{IsRead}
use Rattle.map_query.proofs.reading.read_queries.Given as goal

-- what is read, and then what is left
abbrev pub invariant-loop-rest : goal.invariant-loop-rest
invariant-loop-rest l = IsRead l.fn.style l.fn.bytes l.queries.items l.rest

abbrev pub decreases-loop-rest : goal.decreases-loop-rest
decreases-loop-rest l = length l.rest
