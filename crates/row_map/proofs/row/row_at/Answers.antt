use Rattle.std.proofs.Common.{◌∙◌, ap}
use Rattle.std.specs.Option.{option_and_then}
use Rattle.row_rules.specs.Material.{material_among, relations_with}
use Rattle.row_rules.specs.Row.{row_of}
use Rattle.row_map.proofs.row.row_at.Goals as goal

pub returns-in_ok-row_among-in-Some : goal.returns-in_ok-row_among-in-Some
returns-in_ok-row_among-in-Some g c =
    let known = g.L.Lookup.known c.args.lookup.now in
    let selections = c.args.selections.now in
    record {
      row = c.in_ok-row_among-in-Some.ensures.row
          ∙ ap (λ ids. row_of selections (material_among selections known ids) c.args.table.now c.args.key c.in-Some.object.now)
          c.relations_with.ensures.ids
          ∙ ap (option_and_then (row_of selections
          (material_among selections known (relations_with known c.args.key)) c.args.table.now c.args.key)) c.in-Some.ensures.object;
    }
