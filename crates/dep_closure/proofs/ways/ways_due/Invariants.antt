use Rattle.std.proofs.Common.{◌≡◌, ℕ, take}
use Rattle.std.specs.List.{AllByRecursion}
use Rattle.osm_base.specs.values.Key.{IsId}
use Rattle.osm_base.specs.map.Known.{Index}
use Rattle.osm_base.specs.values.Ids.{has}
use Rattle.dep_closure.specs.Asks.{HasAsked}
use Rattle.dep_closure.specs.Questions.{of_nodes}
use Rattle.dep_closure.specs.Ways.{is_due}
use Rattle.dep_closure.proofs.ways.ways_due.Given as goal

-- the ways that the entries so far make due, by an index that stays
abbrev pub invariant-loop-entry : goal.invariant-loop-entry
invariant-loop-entry g l = record {
  due : (index : Index) → g.B.Back.knows l.initial.back index → (way : ℕ)
      → has l.ways.items way ≡ is_due index (take l.entry-index l.entries) way;
  ids : AllByRecursion IsId l.ways.items;
  asks : HasAsked g.B.Back (of_nodes (take l.entry-index l.entries)) l.initial.back l.back;
}
