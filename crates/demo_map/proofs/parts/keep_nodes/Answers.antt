use Rattle.std.proofs.Common.{append_assoc, rules}
use Rattle.demo_map.proofs.parts.keep_nodes.Goals as goal

pub returns-clause-ok : goal.returns-clause-ok
returns-clause-ok c = search (rules, append_assoc)
