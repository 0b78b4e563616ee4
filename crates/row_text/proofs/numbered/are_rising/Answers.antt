use Rattle.std.proofs.Common.{◌≡◌, ◌≢◌, ◌+◌, ◌-◌, T, drop, get_or, rules, sym, ◌∙◌, ap, subst, arith, map}
use Rattle.std.specs.declared.cmp.Ordering.TheVariants.{Less}
use Rattle.std.specs.FinMap.{is_sorted}
use Rattle.row_text.specs.Numbered.{by_number, seen}
use Rattle.row_text.proofs.Ordered.{below_of, not_below, goes_on, stops, is_sorted-last}
use Rattle.row_text.proofs.TableRows.{by_number_total, by_number-IsAntisymmetric}
use Rattle.row_text.proofs.numbered.are_rising.Goals as goal

pub returns-then-is_ge : goal.returns-then-is_ge
returns-then-is_ge c =
    let order = by_number c.args.of_areas in
    let n = c.loop-place.place - 1 in
    let first = c.index-rows-place.result in
    let second = c.index-rows-place-in-loop-place.result in
    let next : c.loop-place.place ≡ n + 1 = omega (arith, c.loop-place.invariant.0) in
    let seen_keys : order (get_or c.args.rows.now n first).key (get_or c.args.rows.now c.loop-place.place second).key
    ≡ order first.key second.key =
    ap (λ own. order own.key (get_or c.args.rows.now c.loop-place.place second).key) (sym c.index-rows-place.is)
    ∙ ap (λ own. order first.key own.key) (sym c.index-rows-place-in-loop-place.is) in
    record {
      rising = (
        λ no. absurd (search rules),
        λ rising. absurd (stops order (by_number_total c.args.of_areas) (by_number-IsAntisymmetric c.args.of_areas) seen c.args.rows.now n
            first second (omega arith) c.index-rows-place.is
            (c.index-rows-place-in-loop-place.is ∙ ap (λ k. get_or c.args.rows.now k second) next)
            (subst (λ o. o ≢ Less) (c.order.ensures.order ∙ seen_keys) (not_below c.order.result (sym c.is_ge.ensures ∙ c.if-is_ge.true)))
            rising),
      );
    }

pub loop-place-preserved : goal.loop-place-preserved
loop-place-preserved c =
    let order = by_number c.args.of_areas in
    let n = c.loop-place.place - 1 in
    let first = c.index-rows-place.result in
    let second = c.index-rows-place-in-loop-place.result in
    let next : c.loop-place.place ≡ n + 1 = omega (arith, c.loop-place.invariant.0) in
    let seen_keys : order (get_or c.args.rows.now n first).key (get_or c.args.rows.now c.loop-place.place second).key
    ≡ order first.key second.key =
    ap (λ own. order own.key (get_or c.args.rows.now c.loop-place.place second).key) (sym c.index-rows-place.is)
    ∙ ap (λ own. order first.key own.key) (sym c.index-rows-place-in-loop-place.is) in
    let after : c.loop-place.place + 1 - 1 ≡ n + 1 = omega (arith, next) in (
      omega arith,
      λ rest. goes_on order (by_number_total c.args.of_areas) (by_number-IsAntisymmetric c.args.of_areas) seen c.args.rows.now n
          first second (omega arith) c.index-rows-place.is
          (c.index-rows-place-in-loop-place.is ∙ ap (λ k. get_or c.args.rows.now k second) next)
          (sym (c.order.ensures.order ∙ seen_keys) ∙ below_of c.order.result (sym c.is_ge.ensures ∙ c.if-is_ge.false))
          c.loop-place.invariant.1
          (subst (λ k. T (is_sorted order (drop k (map seen c.args.rows.now)))) after rest),
    )

pub returns : goal.returns
returns c =
    let order = by_number c.args.of_areas in
    record {
      rising = (
        λ _. c.loop-place.invariant.1 (is_sorted-last order (by_number_total c.args.of_areas)
            (by_number-IsAntisymmetric c.args.of_areas) seen
            c.args.rows.now (c.loop-place.place - 1) (omega (arith, c.loop-place.invariant.0))),
        λ _. search rules,
      );
    }
