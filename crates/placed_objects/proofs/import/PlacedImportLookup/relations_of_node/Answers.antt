use Rattle.std.specs.List.Sorted.{IsStrictlySortedBy}
use Rattle.placed_objects.proofs.import.PlacedImportLookup.relations_of_node.Goals as goal

pub returns-clause-rising : goal.returns-clause-rising
unfolding IsStrictlySortedBy
returns-clause-rising c = (tt, tt)
