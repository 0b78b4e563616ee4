-- What reads as rows reads as no others.
use Rattle.std.proofs.Common.{◌≡◌, ◌↔◌, List, Some, true, ap, subst, ◌∙◌}
use Rattle.std.specs.List.{AllByRecursion}
use Rattle.osm_base.specs.declared.values.row.TableRow.{TableRow}
use Rattle.style_read.specs.Style.{StyleOf}
use Rattle.style_read.specs.declared.style.TableDef.{TableDef}
use Rattle.store_check.specs.Values.{IsPlaced}
use Rattle.store_check.proofs.RowRight.{placed_rows}
use Rattle.store_check.proofs.row_judge.is_right_unknown.Goals as goal

pub returns-in-Ok : goal.returns-in-Ok
returns-in-Ok c = record {
  right =
      let tables = c.args.style.now.tables in
      let text : c.args.kept.now ≡ Some c.as_slice.result.now = cc (c.in-Some.is, c.as_slice.ensures.items) in
      placed_rows tables c.args.place c.args.kept.now c.as_slice.result.now c.in-Ok.rows text c.in-Ok.ensures.rows c.are_placed.result
      (subst (λ (rows : List TableRow). (c.are_placed.result ≡ true) ↔ AllByRecursion (IsPlaced tables c.args.place) rows)
      c.as_slice-in-Ok-2.ensures.items
      (subst (λ (own : List TableDef). (c.are_placed.result ≡ true)
      ↔ AllByRecursion (IsPlaced own c.args.place) c.as_slice-in-Ok-2.result.now) (c.as_slice-in-Ok.ensures.items ∙ ap (λ (own : StyleOf). own.tables) c.style.view_is) c.are_placed.ensures.placed));
}
