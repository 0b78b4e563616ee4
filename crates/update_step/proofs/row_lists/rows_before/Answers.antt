use Rattle.std.proofs.Common.{rules, ◌≡◌, sym, ap, ◌∙◌}
use Rattle.store_maps.specs.Maps.{kept_rows, rows_at}
use Rattle.update_step.proofs.RowsStill.{kept-were}
use Rattle.update_step.proofs.row_lists.rows_before.Goals as goal

pub returns-then-is_among-clause-kept : goal.returns-then-is_among-clause-kept
returns-then-is_among-clause-kept g c under maps old held has lacks =
    c.new.ensures.empty ∙ sym (c.is_among.ensures.lacking old lacks c.if-is_among.true)

pub returns-in-Some-clause-kept : goal.returns-in-Some-clause-kept
returns-in-Some-clause-kept g c under maps old held has lacks =
    let found : c.in_ok-kept.kept ≡ rows_at maps c.args.key.kind c.args.key.id = search (rules, held) in
    ap kept_rows (sym c.in-Some.is ∙ found) ∙ kept-were maps old has c.args.key

pub returns-in-None-clause-kept : goal.returns-in-None-clause-kept
returns-in-None-clause-kept g c under maps old held has lacks =
    let found : c.in_ok-kept.kept ≡ rows_at maps c.args.key.kind c.args.key.id = search (rules, held) in
    c.new-in-None.ensures.empty ∙ ap kept_rows (sym c.in-None.is ∙ found)
    ∙ kept-were maps old has c.args.key
