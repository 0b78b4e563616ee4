use Rattle.std.proofs.Common.{◌≡◌, IfOk, subst}
use Rattle.tag_rows.proofs.WayLaws.{text-rows}
use Rattle.tag_rows.proofs.way_rows.WayImport.into_text.Goals as goal

pub returns : goal.returns
returns c = record {
  text = subst (λ all. IfOk c.text-2.result (λ text. text.items ≡ all))
      (text-rows c.args.self.key c.args.self.objects c.in_ok-rows.field-0 c.in_ok-rows.ensures.rows) c.text-2.ensures.text;
}
