use Rattle.std.proofs.Common.{cond, ap, subst, ◌∙◌}
use Rattle.std.specs.FinMap as finite
use Rattle.std.specs.Str.{chars}
use Rattle.osm_base.specs.values.Ids.{has}
use Rattle.tag_rows.specs.WayRows.{AreRows, WaysRead, row_at, some_row}
use Rattle.tag_rows.proofs.WayLaws.{import-rows}
use Rattle.tag_rows.proofs.way_rows.WayImport.rows.Goals as goal

pub returns : goal.returns
returns c =
    let key = chars c.self.inside.key.now in
    let objects = c.self.inside.objects in
    record {
      rows = subst (λ (own : WaysRead). AreRows own.key own.objects c.set_rows.new.rows) c.self.view_is
          (import-rows key objects c.self.inside.ways.items c.new-rows.result c.set_rows.new.rows c.new-rows.ensures.empty
          c.self.invariant.others (λ id. c.in_ok-set_rows.ensures.rows id ∙ ap
          (λ ids. cond (has ids id) (some_row (row_at key objects id)) (finite.get c.new-rows.result id)) c.deref.ensures.value));
    }
