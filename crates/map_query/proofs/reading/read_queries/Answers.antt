use Rattle.std.proofs.Common.{arith, ◌∙◌, ap, map, Ok}
use Rattle.map_query.proofs.Walk.{all_read}
use Rattle.map_query.proofs.reading.read_queries.Goals as goal

pub returns-clause-queries : goal.returns-clause-queries
returns-clause-queries c =
    ap (map Ok) c.from_vec.ensures.items ∙ all_read c.args.style.now c.args.bytes.now c.loop-rest.rest.now c.loop-rest.queries.items
    c.loop-rest.invariant (omega arith)
