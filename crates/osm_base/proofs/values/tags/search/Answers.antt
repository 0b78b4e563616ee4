use Rattle.std.proofs.Common.{◌+◌, ◌-◌, ◌/◌, ◌<◌, ◌≤◌, length, sym, ◌∙◌, arith}
use Rattle.osm_base.specs.values.TagOrder.{pairs_of}
use Rattle.std.proofs.lemmas.List.{length-map}
use Rattle.osm_base.specs.values.TagText.{pair_of}
use Rattle.std.specs.Str.{chars}
use Rattle.osm_base.proofs.TagSearch.{above-at, below-at, found-at, IsBetween-higher, IsBetween-lower, BelongsAt-IsBetween, past_the_end}
use Rattle.osm_base.proofs.TagPlaces.{find-BelongsAt}
use Rattle.osm_base.proofs.values.tags.search.Goals as goal

pub loop-low-preserved-in-Less : goal.loop-low-preserved-in-Less
loop-low-preserved-in-Less c =
    let low = c.loop-low.low in
    let high = c.loop-low.high in
    let middle = low + (high - low) / 2 in
    let below : middle < high = omega arith in
    let within : middle < length c.args.spans.now = omega (arith, length-map c.args.spans.now (pair_of c.args.text.now)) in
    IsBetween-higher (chars c.args.key.now) (pairs_of c.args.text.now c.args.spans.now) low high middle c.loop-low.invariant below
    (above-at c.args.text.now c.args.key.now c.key_at.result.now c.args.spans.now middle past_the_end
    (c.key_at.ensures.key past_the_end) c.utf8.key c.key_at.utf8 within c.requires (sym c.cmp.ensures ∙ c.in-Less.is))

pub returns-in-Equal-clause-found : goal.returns-in-Equal-clause-found
returns-in-Equal-clause-found c =
    let low = c.loop-low.low in
    let high = c.loop-low.high in
    let middle = low + (high - low) / 2 in
    let within : middle < length c.args.spans.now = omega (arith, length-map c.args.spans.now (pair_of c.args.text.now)) in
    λ past. found-at c.args.text.now c.args.key.now c.key_at.result.now c.args.spans.now middle past
    (c.key_at.ensures.key past) c.utf8.key c.key_at.utf8 within c.requires (sym c.cmp.ensures ∙ c.in-Equal.is)

pub loop-low-preserved : goal.loop-low-preserved
loop-low-preserved c =
    let low = c.loop-low.low in
    let high = c.loop-low.high in
    let middle = low + (high - low) / 2 in
    let least : low ≤ middle = omega arith in
    let most : middle ≤ high = omega arith in
    let within : middle < length c.args.spans.now = omega (arith, length-map c.args.spans.now (pair_of c.args.text.now)) in
    IsBetween-lower (chars c.args.key.now) (pairs_of c.args.text.now c.args.spans.now) low high middle c.loop-low.invariant least most
    (below-at c.args.text.now c.args.key.now c.key_at.result.now c.args.spans.now middle past_the_end
    (c.key_at.ensures.key past_the_end) c.utf8.key c.key_at.utf8 within c.requires (sym c.cmp.ensures ∙ c.in-Greater.is))

pub returns : goal.returns
returns c =
    record {
      within = tt;
      found = tt;
      absent = λ _. find-BelongsAt (chars c.args.key.now) (pairs_of c.args.text.now c.args.spans.now) c.loop-low.low
          (BelongsAt-IsBetween (chars c.args.key.now)
          (pairs_of c.args.text.now c.args.spans.now) c.loop-low.low c.loop-low.high c.loop-low.invariant (omega arith));
    }
