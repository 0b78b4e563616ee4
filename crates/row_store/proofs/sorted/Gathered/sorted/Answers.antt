-- Of rows at one spot the last stays the last.
use Rattle.std.proofs.Common.{◌≡◌, T, reverse, refl, subst, rules, ◌∙◌}
use Rattle.std.specs.FinMap as finite
use Rattle.std.specs.FinMap.{is_sorted}
use Rattle.std.proofs.lemmas.Result.{IfOk-weaker}
use Rattle.osm_base.specs.map.Spots.{spot_cmp}
use Rattle.row_store.specs.Places.{place_number}
use Rattle.row_store.proofs.OrderLaws.{SpotRows, rising_turned, same_sorted}
use Rattle.row_store.proofs.sorted.Gathered.sorted.Goals as goal

pub returns-then-are_rising : goal.returns-then-are_rising
returns-then-are_rising c =
    let other = c.sort_by_cached_key.new.self.items in
    record {
      same = c.from_rising.ensures.same ∙ rising_turned other (subst (λ (own : SpotRows). T (is_sorted spot_cmp own)) c.deref.ensures.value (c.if-are_rising.ensures.rising refl))
          ∙ same_sorted place_number c.self.inside.rows.items other c.sort_by_cached_key.ensures.stable (λ a r q k. search rules)
          ∙ c.self.view_is;
    }

pub returns : goal.returns
returns c =
    let other = c.sort_by_cached_key.new.self.items in
    let turned = same_sorted place_number c.self.inside.rows.items other c.sort_by_cached_key.ensures.stable (λ a r q k. search rules) in
    record {
      same = IfOk-weaker c.by_tree.result (λ sorted. sorted ≡ finite.from_entries {R = spot_cmp} (reverse other)) (λ sorted. sorted ≡ c.args.self)
          (λ sorted is. is ∙ turned ∙ c.self.view_is) c.by_tree.ensures.same;
    }
