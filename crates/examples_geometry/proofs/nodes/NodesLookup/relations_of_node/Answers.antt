use Rattle.std.specs.List.Sorted.{IsStrictlySortedBy}
use Rattle.examples_geometry.proofs.nodes.NodesLookup.relations_of_node.Goals as goal

pub returns-clause-rising : goal.returns-clause-rising
unfolding IsStrictlySortedBy
returns-clause-rising c = (tt, tt)
