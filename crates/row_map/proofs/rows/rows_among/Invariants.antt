use Rattle.std.proofs.Common.{◌≡◌, ◌++◌, drop}
use Rattle.row_rules.specs.Material.{material_among}
use Rattle.row_rules.specs.Rows.{rows_from}
use Rattle.row_map.proofs.rows.rows_among.Given as goal

-- the rows so far, and then those of the tables that are left
abbrev pub invariant-loop-table : goal.invariant-loop-table
invariant-loop-table g l =
    let selections = l.relations.selections.now in
    let material = material_among selections (g.L.Lookup.known l.relations.lookup.now) l.relations.ids.now in
    (l.number ≡ l.table-index)
    × (l.rows ++ rows_from selections material l.key l.object l.table-index (drop l.table-index l.tables)
    ≡ rows_from selections material l.key l.object 0 l.tables)
