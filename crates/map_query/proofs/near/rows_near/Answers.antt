use Rattle.std.proofs.Common.{◌≡◌, List, T, ap, map, sym, subst, ◌∙◌}
use Rattle.std.specs.Prelude.{IfOk, filter}
use Rattle.std.specs.FinMap as finite
use Rattle.std.specs.FinMap.{is_sorted}
use Rattle.osm_base.specs.declared.values.row.Row.{Row}
use Rattle.osm_base.specs.values.Key.{KeyOf}
use Rattle.osm_base.specs.values.KeyOrder.{key_cmp}
use Rattle.grid_index.specs.Grid as grid
use Rattle.row_text.specs.Numbered.{by_number, rows_by_number, seen}
use Rattle.row_text.specs.Table.{has_areas}
use Rattle.map_query.specs.Answer.{is_in, numbered}
use Rattle.map_query.specs.RowBoxes.{rows_at}
use Rattle.map_query.proofs.NearRows.{found_in_order, rising}
use Rattle.map_query.proofs.near.rows_near.Goals as goal

pub ordered_at-requires : goal.ordered_at-requires
ordered_at-requires c =
    let tables = c.args.tables.now in
    let keys : c.as_slice.result.now ≡ grid.found_in c.args.boxes.now c.args.table c.args.asked =
    c.as_slice.ensures.items ∙ c.in_ok-keys.ensures.keys in
    record {
      rising = subst (λ (keys : List KeyOf). T (is_sorted key_cmp (rows_at tables c.args.table keys))) (sym keys)
          (rising tables c.args.boxes.now c.args.table c.args.asked c.requires.boxed);
    }

pub returns : goal.returns
returns c =
    let style = c.args.style.now in
    let tables = c.args.tables.now in
    let table = c.args.table in
    let asked = c.args.asked in
    let of_areas = has_areas style table in
    let keys : c.as_slice.result.now ≡ grid.found_in c.args.boxes.now table asked = c.as_slice.ensures.items ∙ c.in_ok-keys.ensures.keys in
    let ordered : List KeyOf → List (KeyOf × Row) =
    λ keys. finite.entries (finite.from_entries {R = by_number of_areas} (rows_at tables table keys)) in
    let path : map seen c.as_slice-2.result.now ≡ filter (λ own. is_in asked own.1) (rows_by_number of_areas tables table) =
    ap (map seen) c.as_slice-2.ensures.value
    ∙ (c.in_ok-rows.ensures.rows ∙ (ap ordered keys ∙ found_in_order tables c.args.boxes.now table asked c.requires.boxed of_areas)) in
    record {
      rows = subst (λ (rows : List (KeyOf × Row)). IfOk c.with_numbers.result (λ found. found ≡ numbered style table rows)) path
          c.with_numbers.ensures.rows;
    }
