use Rattle.std.proofs.Common.{sym, ◌∙◌, ap, Some, ◌<◌, length, arith}
use Rattle.std.specs.Str.{chars}
use Rattle.osm_base.proofs.TagPairs.{find-here, find-later}
use Rattle.osm_base.proofs.TagSearch.{past_the_end}
use Rattle.osm_base.proofs.values.tags.value_in.Goals as goal

pub returns-then-eq : goal.returns-then-eq
returns-then-eq c =
    let here : c.loop-span.span-index < length c.args.spans.now = omega arith in
    record {
      value = ap (λ text. Some (chars text)) c.span_text-then-eq.ensures.bytes
          ∙ sym (find-here c.args.text.now c.args.key.now c.args.spans.now c.loop-span.span-index past_the_end
          c.span_text.result.now c.span_text.ensures.bytes here c.utf8.key c.span_text.utf8 (sym c.eq.ensures ∙ c.if-eq.true))
          ∙ c.loop-span.invariant;
    }

pub loop-span-preserved : goal.loop-span-preserved
loop-span-preserved c =
    let here : c.loop-span.span-index < length c.args.spans.now = omega arith in
    find-later c.args.text.now c.args.key.now c.args.spans.now c.loop-span.span-index past_the_end
    c.span_text.result.now c.span_text.ensures.bytes here c.utf8.key c.span_text.utf8 (sym c.eq.ensures ∙ c.if-eq.false)
    ∙ c.loop-span.invariant
