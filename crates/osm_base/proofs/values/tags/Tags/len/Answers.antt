use Rattle.std.proofs.Common.{ap, sym, ◌∙◌}
use Rattle.std.specs.FinMap as map
use Rattle.osm_base.proofs.TagSearch.{length-len}
use Rattle.osm_base.proofs.values.tags.Tags.len.Goals as goal

pub returns : goal.returns
returns c = record {
  count = length-len c.parts.result.0.now c.parts.result.1.now c.parts.ensures.tags ∙ ap map.len (sym c.parts.ensures.map);
}
