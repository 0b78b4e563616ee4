use Rattle.std.proofs.Common.{◌≡◌, ◌++◌}
use Rattle.osm_base.specs.map.Objects.{folded_all}
use Rattle.placed_objects.proofs.objects.PlacedObjects.fold.Given as goal

-- the objects are what the entries so far make of those before
abbrev pub invariant-loop-entry : goal.invariant-loop-entry
invariant-loop-entry l = record {
  made : l.self ≡ folded_all l.fn.self l.yielded;
  all : l.fn.change ≡ l.yielded ++ l.entry-iterator.rest.items;
}
