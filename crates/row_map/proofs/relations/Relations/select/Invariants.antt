use Rattle.std.proofs.Common.{◌≡◌, drop}
use Rattle.row_rules.specs.Material.{selecting_among}
use Rattle.row_map.proofs.relations.Relations.select.Given as goal

-- those that select are among the relations that are left
abbrev pub invariant-loop-id : goal.invariant-loop-id
invariant-loop-id g l =
    selecting_among l.self.selections.now (g.L.Lookup.known l.self.lookup.now).object (drop l.id-index l.self.ids.now) l.number
    ≡ selecting_among l.self.selections.now (g.L.Lookup.known l.self.lookup.now).object l.self.ids.now l.number
