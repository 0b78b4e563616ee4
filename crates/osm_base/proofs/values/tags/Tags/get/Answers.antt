use Rattle.std.proofs.Common.{sym, ap, ◌∙◌}
use Rattle.std.specs.FinMap as map
use Rattle.std.specs.Str.{chars}
use Rattle.std.specs.Cmp.Lexicographic.{nat_list_cmp_total}
use Rattle.osm_base.specs.values.TagOrder.{pairs_of}
use Rattle.osm_base.proofs.values.tags.Tags.get.Goals as goal

pub returns : goal.returns
returns c = record {
  value = c.value_of.ensures.value
      ∙ sym (map.get-from_entries nat_list_cmp_total (pairs_of c.parts.result.0.now c.parts.result.1.now) (chars c.args.key.now))
      ∙ ap (λ tags. map.get tags (chars c.args.key.now)) (sym c.parts.ensures.map);
}
