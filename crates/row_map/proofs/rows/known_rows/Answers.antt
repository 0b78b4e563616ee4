use Rattle.std.proofs.Common.{◌∙◌, ap, sym}
use Rattle.style_read.specs.Style.{StyleOf}
use Rattle.row_rules.specs.Material.{material_among}
use Rattle.row_rules.specs.Rows.{rows_from}
use Rattle.row_rules.proofs.TableRows.{rows_known-none, rows_known-some}
use Rattle.row_map.proofs.rows.known_rows.Goals as goal

pub returns-in-None : goal.returns-in-None
returns-in-None g c =
    record {
      rows = c.new.ensures.empty ∙ sym
          (rows_known-none c.args.style.now (g.L.Lookup.known c.args.lookup.now) c.args.key (sym c.in-None.ensures.object));
    }

pub returns-in_ok-rows_among-in-Some : goal.returns-in_ok-rows_among-in-Some
returns-in_ok-rows_among-in-Some g c =
    let style = c.args.style.now in
    let known = g.L.Lookup.known c.args.lookup.now in
    record {
      rows = c.in_ok-rows_among-in-Some.ensures.rows
          ∙ ap (λ selections. rows_from selections
          (material_among selections known c.relations_with.result.now) c.args.key c.in-Some.object.now 0 c.as_slice-in-Some.result.now)
          (c.as_slice.ensures.items ∙ ap (λ (s : StyleOf). s.selections) c.style.view_is)
          ∙ ap (λ tables. rows_from style.selections
          (material_among style.selections known c.relations_with.result.now) c.args.key c.in-Some.object.now 0 tables)
          (c.as_slice-in-Some.ensures.items ∙ ap (λ (s : StyleOf). s.tables) c.style.view_is)
          ∙ ap (λ ids. rows_from style.selections (material_among style.selections known ids) c.args.key c.in-Some.object.now 0
          style.tables) c.relations_with.ensures.ids
          ∙ rows_known-some style known c.args.key c.in-Some.object.now (sym c.in-Some.ensures.object);
    }
