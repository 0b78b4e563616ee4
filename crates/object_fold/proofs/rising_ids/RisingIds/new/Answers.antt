use Rattle.std.proofs.Common.{subst, sym}
use Rattle.osm_base.specs.values.Ids.{IsRising}
use Rattle.object_fold.proofs.SortedIds.{none-rise}
use Rattle.object_fold.proofs.rising_ids.RisingIds.new.Goals as goal

pub invariant_of-result : goal.invariant_of-result
invariant_of-result c = subst IsRising (sym c.new.ensures.items) none-rise
