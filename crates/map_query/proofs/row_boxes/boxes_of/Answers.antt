use Rattle.std.proofs.Common.{◌≡◌, sym, subst}
use Rattle.osm_base.specs.map.Spots.{TableMap}
use Rattle.osm_base.specs.map.SpotTree.{rows_in}
use Rattle.grid_index.specs.Grid.{BoxMap}
use Rattle.map_query.specs.RowBoxes.{IsBoxed, boxes_from}
use Rattle.map_query.proofs.KeptBoxes.{boxed_from}
use Rattle.map_query.proofs.row_boxes.boxes_of.Goals as goal

pub returns : goal.returns
returns c =
    let rows = c.rows.result.now in
    let tables : rows_in rows ≡ c.args.tables.now = c.rows.ensures.rows in
    let all : IsBoxed (rows_in rows) (boxes_from rows.entries) = boxed_from rows.entries in
    let here : IsBoxed c.args.tables.now (boxes_from rows.entries) =
    subst (λ (tables : TableMap). IsBoxed tables (boxes_from rows.entries)) tables all in
    record { boxes = subst (λ (boxes : BoxMap). IsBoxed c.args.tables.now boxes) (sym c.in_ok-boxes.ensures.boxes) here }
