use Rattle.std.proofs.Common.{◌≡◌, ◌∙◌, length, map, sym, ap}
use Rattle.std.proofs.lemmas.List.{length-map}
use Rattle.std.specs.Prelude.{filter}
use Rattle.row_text.specs.Numbered.{rows_by_number, rows_of}
use Rattle.row_text.specs.Table.{has_areas}
use Rattle.map_query.specs.Answer.{answer, is_in, numbered}
use Rattle.map_query.specs.Ordered.{met, seen}
use Rattle.map_query.specs.declared.answering.Found.TheVariants as finds
use Rattle.map_query.proofs.KeptCounts.{length-rows_by_number}
use Rattle.map_query.proofs.in_order.answer_in_order.Goals as goal

pub returns-in-Some : goal.returns-in-Some
returns-in-Some c =
    let style = c.args.style.now in
    let tables = c.args.tables.now in
    let table = c.in-Count.table in
    let own = c.in-Some.own.now in
    let rows : map seen own.rows.items ≡ rows_by_number (has_areas style table) tables table =
    (c.in-Some.ensures.rows style tables c.requires.ordered).rows
    ∙ ap (λ own. rows_by_number (has_areas style own) tables own) c.in-Some.ensures.table in
    let count : length own.rows.items ≡ length (rows_of tables table) =
    sym (length-map own.rows.items seen) ∙ (ap length rows ∙ length-rows_by_number (has_areas style table) tables table) in
    record { found = ap finds.Count (ap length c.as_slice-rows.ensures.value ∙ count) ∙ ap (answer style tables) (sym c.in-Count.is) }

pub rows_met-requires : goal.rows_met-requires
rows_met-requires c = record {
  blocks = (c.in-Some-rows_of.ensures.rows c.args.style.now c.args.tables.now c.requires.ordered).blocks;
}

pub returns-in-Some-rows_of : goal.returns-in-Some-rows_of
returns-in-Some-rows_of c =
    let style = c.args.style.now in
    let tables = c.args.tables.now in
    let table = c.in-Box.table in
    let own = c.in-Some-rows_of.own.now in
    let is_table : own.table ≡ table = c.in-Some-rows_of.ensures.table in
    let rows : map seen own.rows.items ≡ rows_by_number (has_areas style table) tables table =
    (c.in-Some-rows_of.ensures.rows style tables c.requires.ordered).rows
    ∙ ap (λ own. rows_by_number (has_areas style own) tables own) is_table in
    record {
      found = ap finds.Rows (c.in_ok-rows_met-in-Box.ensures.rows ∙ ap (λ own_table. met style own_table c.in-Box.asked own.rows.items) is_table
          ∙ ap (λ rows. numbered style table (filter (λ own. is_in c.in-Box.asked own.1) rows)) rows)
          ∙ ap (answer style tables) (sym c.in-Box.is);
    }
