use Rattle.table_versions.proofs.Rounds.{Asked}
use Rattle.table_versions.proofs.asking.ask_all.Given as goal

abbrev pub invariant-loop-query : goal.invariant-loop-query
invariant-loop-query g l = Asked (g.E.Reads.state l.fn.reader) (g.E.Reads.state l.reader) l.queries l.query-index l.answers
