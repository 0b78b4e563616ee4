use Rattle.std.proofs.Common.{length, sym, ap, subst, ◌∙◌}
use Rattle.osm_base.specs.values.Ids.{IsRising}
use Rattle.object_fold.proofs.SortedIds.{none-rise}
use Rattle.placed_objects.proofs.node_places.NodePlaces.new.Goals as goal

pub invariant_of-result : goal.invariant_of-result
invariant_of-result c = record {
  rise = subst IsRising (sym c.new.ensures.items) none-rise;
  each = ap length c.new-2.ensures.items ∙ sym (ap length c.new.ensures.items);
}
