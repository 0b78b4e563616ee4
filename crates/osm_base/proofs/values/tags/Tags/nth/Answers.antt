use Rattle.std.proofs.Common.{◌≡◌, ◌<◌, length, sym, ap, ◌∙◌, arith}
use Rattle.std.specs.FinMap as map
use Rattle.std.specs.List.{slice_get}
use Rattle.osm_base.proofs.TagSearch.{length-len, slice_get-entries, past_the_end}
use Rattle.osm_base.proofs.values.tags.Tags.nth.Goals as goal

pub key_at-requires-clause-within : goal.key_at-requires-clause-within
key_at-requires-clause-within c =
    let size : length c.parts.result.1.now ≡ map.len c.args.self.now =
    length-len c.parts.result.0.now c.parts.result.1.now c.parts.ensures.tags ∙ ap map.len (sym c.parts.ensures.map) in
    omega arith

pub value_at-requires-clause-within : goal.value_at-requires-clause-within
value_at-requires-clause-within c =
    let size : length c.parts.result.1.now ≡ map.len c.args.self.now =
    length-len c.parts.result.0.now c.parts.result.1.now c.parts.ensures.tags ∙ ap map.len (sym c.parts.ensures.map) in
    omega arith

pub returns : goal.returns
returns c =
    let text = c.parts.result.0.now in
    let spans = c.parts.result.1.now in
    let size : length spans ≡ map.len c.args.self.now = length-len text spans c.parts.ensures.tags ∙ ap map.len (sym c.parts.ensures.map) in
    let within : c.args.index < length spans = omega arith in
    record {
      tag = ap (λ tags. slice_get (map.entries tags) c.args.index) c.parts.ensures.map
          ∙ slice_get-entries text spans c.parts.ensures.tags c.args.index past_the_end c.key_at.result.now c.value_at.result.now within
          (c.key_at.ensures.key past_the_end) (c.value_at.ensures.value past_the_end);
    }
