-- The row is put where the one of its table stood.
use Rattle.std.proofs.Common.{◌∙◌, List, Option, Some, sym, ap}
use Rattle.osm_base.specs.declared.values.row.Row.{Row}
use Rattle.osm_base.specs.declared.values.row.TableRow.{TableRow}
use Rattle.store_maps.specs.Maps.{kept_rows}
use Rattle.row_store.specs.Tables.{turned}
use Rattle.row_store.proofs.TurnLaws.{row_put}
use Rattle.row_store.proofs.turning.turned.Goals as goal

pub returns : goal.returns
returns c = record {
  rows = c.from_vec-2.ensures.items ∙ c.in_ok-insert.ensures.items
      ∙ row_put c.args.table c.rows_of-rows.result.items c.take_out-at.new.rows.items c.take_out-at.result c.in-Some.row
      c.take_out-at.ensures.rows c.take_out-at.ensures.place
      ∙ ap (λ (l : List TableRow). turned l c.args.table (Some c.in-Some.row)) c.rows_of-rows.ensures
      ∙ ap (λ (o : Option Row). turned (kept_rows c.args.found) c.args.table o) (sym c.in-Some.is);
}
