use Rattle.std.proofs.Common.{◌≡◌, drop}
use Rattle.std.specs.List.{list_any}
use Rattle.row_rules.specs.Condition.{holds}
use Rattle.row_rules.specs.Material.{is_selected, selecting_among}
use Rattle.row_map.proofs.condition.any_holds.Given as goal

-- whether one of those that are left holds decides
abbrev pub invariant-loop-condition : goal.invariant-loop-condition
invariant-loop-condition g l =
    let selecting = selecting_among l.relations.selections.now (g.L.Lookup.known l.relations.lookup.now).object l.relations.ids.now in
    list_any (holds (is_selected selecting) l.tags) (drop l.condition-index l.conditions)
    ≡ list_any (holds (is_selected selecting) l.tags) l.conditions
