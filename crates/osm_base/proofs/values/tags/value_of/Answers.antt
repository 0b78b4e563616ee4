use Rattle.std.proofs.Common.{Some, sym, ◌∙◌, ap}
use Rattle.std.specs.Str.{chars}
use Rattle.osm_base.proofs.TagSearch.{past_the_end}
use Rattle.osm_base.proofs.values.tags.value_of.Goals as goal

pub returns : goal.returns
returns c = record {
  value = ap (λ bytes. Some (chars bytes)) (c.value_at.ensures.value past_the_end) ∙ sym (c.in_ok-place.ensures.found past_the_end);
}
