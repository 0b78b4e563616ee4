use Rattle.std.proofs.Common.{◌≡◌, ℕ, take}
use Rattle.std.specs.List.{AllByRecursion}
use Rattle.osm_base.specs.values.Key.{IsId, node_key}
use Rattle.osm_base.specs.values.Ids.{has}
use Rattle.dep_closure.specs.PendingSet.{is_named}
use Rattle.dep_closure.proofs.pending_set.named_nodes.Given as goal

-- the nodes of the entries so far
abbrev pub invariant-loop-entry : goal.invariant-loop-entry
invariant-loop-entry l = record {
  named : (id : ℕ) → has l.nodes.items id ≡ is_named (take l.entry-index l.entries) (node_key id);
  ids : AllByRecursion IsId l.nodes.items;
}
