use Rattle.std.proofs.Common.{◌≡◌, ◌≢◌, ◌+◌, ◌-◌, T, drop, rules, refl, sym, ◌∙◌, subst, arith}
use Rattle.std.proofs.lemmas.List.{length-map}
use Rattle.std.specs.declared.cmp.Ordering.TheVariants.{Less}
use Rattle.std.specs.FinMap.{is_sorted}
use Rattle.osm_base.specs.values.TagText.{pair_of}
use Rattle.osm_base.specs.values.TagOrder.{pairs_of}
use Rattle.osm_base.proofs.TagPlaces.{order}
use Rattle.osm_base.proofs.TagSearch.{past_the_end}
use Rattle.osm_base.proofs.TagLists.{goes_on, stops, below_of, not_below, is_sorted-last}
use Rattle.osm_base.proofs.values.tags.list.are_rising.Goals as goal

pub returns-then-is_ge : goal.returns-then-is_ge
returns-then-is_ge c = record {
  rising = (
    λ no. absurd (search rules),
    λ rising.
        let n = c.loop-place.place - 1 in
        let next : n + 1 ≡ c.loop-place.place = omega (arith, c.loop-place.invariant.0) in
        absurd (stops c.args.text.now c.key_at-earlier.result.now c.key_at-key.result.now c.args.spans.now n past_the_end c.requires
        (omega arith) (c.key_at-earlier.ensures.key past_the_end) (rw next (c.key_at-key.ensures.key past_the_end))
        (subst (λ o. o ≢ Less) c.cmp.ensures (not_below c.cmp.result (sym c.is_ge.ensures ∙ c.if-is_ge.true))) rising),
  );
}

pub loop-place-preserved : goal.loop-place-preserved
loop-place-preserved c =
    let n = c.loop-place.place - 1 in
    let next : n + 1 ≡ c.loop-place.place = omega (arith, c.loop-place.invariant.0) in
    let after : c.loop-place.place + 1 - 1 ≡ n + 1 = omega (arith, next) in (
      omega arith,
      λ rest.
          goes_on c.args.text.now c.key_at-earlier.result.now c.key_at-key.result.now c.args.spans.now n past_the_end c.requires
          (omega arith) (c.key_at-earlier.ensures.key past_the_end) (rw next (c.key_at-key.ensures.key past_the_end))
          (sym c.cmp.ensures ∙ below_of c.cmp.result (sym c.is_ge.ensures ∙ c.if-is_ge.false)) c.loop-place.invariant.1
          (subst (λ k. T (is_sorted order (drop k (pairs_of c.args.text.now c.args.spans.now)))) after rest),
    )

pub returns : goal.returns
returns c = record {
  rising = (
    λ _. c.loop-place.invariant.1
        (is_sorted-last c.args.text.now c.args.spans.now (c.loop-place.place - 1)
        (omega (arith, length-map c.args.spans.now (pair_of c.args.text.now), c.loop-place.invariant.0))),
    λ _. refl,
  );
}
