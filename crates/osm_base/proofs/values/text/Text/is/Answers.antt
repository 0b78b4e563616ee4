use Rattle.std.proofs.Common.{◌∙◌, ap, sym}
use Rattle.std.specs.Cmp.Lexicographic.{slice_cmp}
use Rattle.std.specs.Ordering.{eq_by_cmp, nat_cmp}
use Rattle.std.specs.Str.{chars}
use Rattle.osm_base.proofs.TagPairs.{same_characters}
use Rattle.osm_base.proofs.values.text.Text.is.Goals as goal

pub returns : goal.returns
returns c = record {
  same = c.eq.ensures
      ∙ sym (same_characters c.as_str.result.now c.args.text.now c.as_str.utf8 c.utf8.text)
      ∙ ap (λ own. eq_by_cmp (slice_cmp nat_cmp) own (chars c.args.text.now)) (ap chars c.as_str.ensures.value ∙ c.self.view_is);
}
