use Rattle.std.proofs.Common.{◌++◌, get_or, ap, refl, ◌∙◌}
use Rattle.std.specs.Str.{chars}
use Rattle.std.specs.String.{string_bytes}
use Rattle.tag_rows.specs.RowsById.{set_row}
use Rattle.tag_rows.specs.WayRows.{row_known}
use Rattle.tag_rows.proofs.WayLaws.{set-more}
use Rattle.tag_rows.proofs.way_rows.set_rows.Goals as goal

pub loop-id-preserved : goal.loop-id-preserved
loop-id-preserved g c =
    let id = get_or c.args.due.now c.loop-id.id-index 0 in
    let row = row_known (chars c.args.key.now) (g.L.Lookup.known c.args.objects.now) in
    set-more c.args.due.now c.loop-id.id-index id row c.args.rows.now c.loop-id.rows c.set.new.self (string_bytes c.push_row.new.out)
    c.loop-id-test.true refl c.loop-id.invariant
    (c.in_ok-set.ensures.ok ∙ ap (set_row c.loop-id.rows id) c.as_bytes.ensures.value)
    (c.in_ok-push_row.ensures.row ∙ ap (λ before. before ++ row id) c.clear.ensures.bytes)
