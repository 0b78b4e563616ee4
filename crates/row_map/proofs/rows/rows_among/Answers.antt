use Rattle.std.proofs.Common.{◌≡◌, ◌+◌, arith}
use Rattle.row_rules.specs.Material.{material_among}
use Rattle.row_rules.proofs.TableRows.{drop_item, rows-more}
use Rattle.row_map.proofs.rows.rows_among.Goals as goal

pub loop-table-preserved : goal.loop-table-preserved
loop-table-preserved g c =
    let selections = c.args.relations.now.selections.now in
    let from = material_among selections (g.L.Lookup.known c.args.relations.now.lookup.now) c.args.relations.now.ids.now in
    let next : c.loop-table.number + 1 ≡ c.loop-table.table-index + 1 = omega (arith, c.loop-table.invariant.0) in
    let is = drop_item c.args.tables.now c.loop-table.table-index c.table-item.result c.loop-table-test.true c.table-item.is in (
      next,
      rows-more selections from c.args.key c.args.object.now c.args.tables.now c.loop-table.table-index c.loop-table.number _ _ _ _ _
          c.loop-table.invariant.0 is c.in_ok-row_among.ensures.row c.in_ok-add_row.ensures.ok c.loop-table.invariant.1,
    )
