use Rattle.std.proofs.Common.{◌≡◌, ◌++◌, drop, map}
use Rattle.std.specs.Str.{chars}
use Rattle.row_rules.specs.Cell.{values_of}
use Rattle.row_rules.specs.Material.{selecting_among}
use Rattle.row_map.proofs.values.values_of.Given as goal

-- the values so far, and then those of the relations that are left
abbrev pub invariant-loop-id : goal.invariant-loop-id
invariant-loop-id g l =
    let object = (g.L.Lookup.known l.relations.lookup.now).object in
    map (λ value. value.now) l.values.items ++ values_of (chars l.key)
    (selecting_among l.relations.selections.now object (drop l.id-index l.relations.ids.now) l.number)
    ≡ values_of (chars l.key) (selecting_among l.relations.selections.now object l.relations.ids.now l.number)
