use Rattle.std.proofs.Common.{◌≡◌, take}
use Rattle.std.specs.List.{AllByRecursion}
use Rattle.osm_base.specs.values.Key.{IsId}
use Rattle.update_step.specs.Importing.{ids_named, wanted_among}
use Rattle.update_step.proofs.importing.ids_of.Given as goal

-- the ids of the entries so far
abbrev pub invariant-loop-entry : goal.invariant-loop-entry
invariant-loop-entry l = record {
  named : l.ids.items ≡ ids_named l.kind (wanted_among l.style (take l.entry-index l.entry-items));
  ids : AllByRecursion IsId l.ids.items;
}
