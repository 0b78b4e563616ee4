use Rattle.std.proofs.Common.{sym, ◌∙◌}
use Rattle.std.specs.Prelude.{◌&&◌}
use Rattle.row_rules.specs.Material.{material_among}
use Rattle.row_rules.specs.Objects.{is_of_kind}
use Rattle.row_rules.specs.Row.{cells_of, wants}
use Rattle.row_rules.specs.Shape.{geometry_of}
use Rattle.row_rules.proofs.NoRow.{no_row}
use Rattle.row_rules.proofs.Unwanted.{shapeless}
use Rattle.row_map.proofs.row.row_among.Goals as goal

pub returns-then-not-may_have_geometry : goal.returns-then-not-may_have_geometry
returns-then-not-may_have_geometry g c =
    let selections = c.args.relations.now.selections.now in
    let known = g.L.Lookup.known c.args.relations.now.lookup.now in
    let from = material_among selections known c.args.relations.now.ids.now in
    let table = c.args.table.now in
    let object = c.args.object.now in
    record {
      row = no_row (is_of_kind c.args.key.kind object && wants from table object) (cells_of selections from table object)
          (geometry_of known.place known.object table.source object)
          (shapeless known.place known.object table.source object (sym c.may_have_geometry.ensures.may ∙ c.if-not-may_have_geometry.true));
    }
