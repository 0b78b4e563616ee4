use Rattle.std.proofs.Common.{◌∙◌, ap, sym}
use Rattle.std.specs.Option.{option_map_or}
use Rattle.std.proofs.Math.Facts.{to_z-of_z}
use Rattle.std.proofs.lemmas.Str.{encodes-chars}
use Rattle.osm_base.specs.declared.values.row.Cell.TheVariants as cells
use Rattle.row_rules.specs.Cell.{whole_number}
use Rattle.row_map.proofs.cell.number_cell.Goals as goal

pub returns-in-Some : goal.returns-in-Some
returns-in-Some c =
    let bytes = c.as_bytes.ensures.value ∙ sym (encodes-chars c.args.value.now c.utf8.value) in
    record {
      cell = c.int_cell.ensures.cell ∙ ap cells.Int (to_z-of_z c.in-Some.ensures.fits)
          ∙ ap (λ found. option_map_or cells.Int found cells.Null) (c.in-Some.ensures.number ∙ ap whole_number bytes);
    }

pub returns-in-None : goal.returns-in-None
returns-in-None c =
    let bytes = c.as_bytes.ensures.value ∙ sym (encodes-chars c.args.value.now c.utf8.value) in
    record { cell = ap (λ found. option_map_or cells.Int found cells.Null) (c.in-None.ensures.number ∙ ap whole_number bytes) }
