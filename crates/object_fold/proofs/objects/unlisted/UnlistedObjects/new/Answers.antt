use Rattle.std.proofs.Common.{rules}
use Rattle.object_fold.proofs.Gathered.{none-ids}
use Rattle.object_fold.proofs.objects.unlisted.UnlistedObjects.new.Goals as goal

pub invariant_of-result : goal.invariant_of-result
invariant_of-result c = none-ids _ (search rules)
