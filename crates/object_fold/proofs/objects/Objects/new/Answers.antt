use Rattle.std.proofs.Common.{rules}
use Rattle.object_fold.proofs.OfObjects.{none-listed}
use Rattle.object_fold.proofs.objects.Objects.new.Goals as goal

pub invariant_of-result : goal.invariant_of-result
invariant_of-result c = none-listed c.new.result c.new-2.result
    (search rules) c.new-2.ensures.ways_of_nodes c.new-2.ensures.relations_of_nodes c.new-2.ensures.relations_of_ways
