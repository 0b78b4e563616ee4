use Rattle.std.proofs.Common.{◌≡◌, IfOk, ap, subst, ◌∙◌}
use Rattle.std.specs.Str.{chars}
use Rattle.tag_rows.specs.Lines.{lines_text}
use Rattle.tag_rows.specs.WayRows.{WaysRead}
use Rattle.tag_rows.proofs.WayLaws.{text-rows}
use Rattle.tag_rows.proofs.way_rows.WayRows.text.Goals as goal

pub returns : goal.returns
returns c = record {
  text = subst (λ all. IfOk c.text.result (λ text. text.items ≡ all))
      (text-rows (chars c.self.inside.key.now) c.self.inside.objects c.self.inside.rows c.self.invariant
      ∙ ap (λ (own : WaysRead). lines_text own.key own.objects) c.self.view_is)
      c.text.ensures.text;
}
