use Rattle.placed_objects.proofs.Joined.{joined_objects-empty}
use Rattle.placed_objects.proofs.objects.PlacedObjects.new.Goals as goal

pub returns : goal.returns
returns c = record { empty = joined_objects-empty c.new.result c.new-2.result c.new.ensures.empty c.new-2.ensures.empty }
