use Rattle.osm_base.proofs.TagSearch.{IsSpan-at, past_the_end}
use Rattle.osm_base.proofs.values.tags.key_at.Goals as goal

pub span_text-requires-clause-utf8 : goal.span_text-requires-clause-utf8
span_text-requires-clause-utf8 c = (IsSpan-at c.args.text.now c.args.spans.now c.args.index past_the_end c.requires.cuts
    c.requires.within).key_text
