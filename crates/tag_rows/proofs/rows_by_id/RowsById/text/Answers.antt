use Rattle.std.proofs.Common.{◌++◌, ◌∙◌, map, ap, sym}
use Rattle.std.specs.List.{concat}
use Rattle.std.proofs.lemmas.List.{append-nil}
use Rattle.tag_rows.specs.RowsById.{all_rows_text}
use Rattle.tag_rows.proofs.RowMapLaws.{kept_text, texts_more, one_more}
use Rattle.tag_rows.proofs.rows_by_id.RowsById.text.Goals as goal

pub loop-row-preserved : goal.loop-row-preserved
loop-row-preserved c = record {
  so_far =
      c.in_ok-extend_from_slice.ensures.items
      ∙ ap (λ before. before ++ c.as_slice.result.now) c.loop-row.invariant.so_far
      ∙ ap (λ row. concat (map (λ row. row.now) c.loop-row.yielded) ++ row) c.as_slice.ensures.items
      ∙ texts_more (λ row. row.now) c.loop-row.yielded c.in-Some.row;
  all =
      c.loop-row.invariant.all
      ∙ ap (λ rest. map (λ row. row.now) c.loop-row.yielded ++ rest) c.in-Some.ensures.steps
      ∙ one_more (λ row. row.now) c.loop-row.yielded c.in-Some.row c.next.new.self;
}

pub returns : goal.returns
returns c =
    let all =
    c.loop-row.invariant.all
    ∙ ap (λ rest. map (λ row. row.now) c.loop-row.yielded ++ rest) c.in-None.ensures.steps.0
    ∙ append-nil (map (λ row. row.now) c.loop-row.yielded) in
    record {
      text =
          c.loop-row.invariant.so_far
          ∙ ap concat (sym all ∙ c.into_iter-row-iterator.ensures.into_iter_gives ∙ c.values-row-items.ensures.rest)
          ∙ sym (kept_text c.self.inside.rows.entries c.values-row-items.ensures.ordered)
          ∙ ap all_rows_text c.self.view_is;
    }
