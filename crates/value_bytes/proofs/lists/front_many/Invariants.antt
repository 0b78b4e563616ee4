use Rattle.value_bytes.proofs.ListLaws.{HasRead}
use Rattle.value_bytes.proofs.lists.front_many.Given as goal

-- so far so many values were read
abbrev pub invariant-loop : goal.invariant-loop
invariant-loop g l = HasRead g.T.Spelled.spell g.T.Spelled.is l.count l.bytes l.counter l.values.items l.rest
