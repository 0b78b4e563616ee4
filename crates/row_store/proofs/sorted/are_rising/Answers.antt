use Rattle.std.proofs.Common.{◌≡◌, ◌+◌, T, true, ◌∷◌, drop, Option, rules, sym, ap, subst, ◌∙◌}
use Rattle.std.specs.Ordering.{is_lt}
use Rattle.std.proofs.lemmas.List.{at_drop_more}
use Rattle.osm_base.specs.declared.values.row.Row.{Row}
use Rattle.osm_base.specs.map.Spots.{SpotOf, spot_cmp}
use Rattle.row_store.proofs.OrderLaws.{SpotRows, rises_behind, rises_more}
use Rattle.row_store.proofs.sorted.are_rising.Goals as goal
use Rattle.row_store.proofs.sorted.are_rising.Goals.{in-Some+else-not-lt, in_default}

pub loop-spot-preserved : goal.loop-spot-preserved
loop-spot-preserved c rise =
    let row = c.loop-spot-item.result in
    let rest : SpotRows = drop (c.loop-spot.spot-index + 1) c.args.rows.now in
    let ahead : T (rises_behind c.loop-spot.last (row ∷ rest)) = elim c.match-last.branch [
      | in-Some+else-not-lt w ↦
          let less : is_lt (spot_cmp w.in-Some.last row.0) ≡ true = search (rules, w.lt.ensures, w.if-not-lt.false) in
          subst (λ (last : Option SpotOf). T (rises_behind last (row ∷ rest))) (sym w.in-Some.is)
          (rises_more w.in-Some.last row rest (subst T (sym less) tt) rise)
      | in_default w ↦ subst (λ (last : Option SpotOf). T (rises_behind last (row ∷ rest))) (sym w.in_default.is) rise
    ] in
    c.loop-spot.invariant (subst T (sym (at_drop_more (rises_behind c.loop-spot.last) c.args.rows.now c.loop-spot.spot-index row c.loop-spot-test.true
    ∙ ap (λ (one : SpotOf × Row). rises_behind c.loop-spot.last (one ∷ rest)) (sym c.loop-spot-item.is))) ahead)
