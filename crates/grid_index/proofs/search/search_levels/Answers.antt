use Rattle.std.proofs.Common.{◌≡◌, rules, ◌∙◌, ap, inl, arith}
use Rattle.std.specs.FinMap as finite
use Rattle.osm_base.specs.map.Spots.{spot_cmp}
use Rattle.grid_index.specs.Grid.{BoxMap, boxes_in}
use Rattle.grid_index.proofs.search.search_levels.Goals as goal

pub loop-level-init : goal.loop-level-init
loop-level-init c =
    let empty : boxes_in c.new-found.result ≡ finite.empty = search rules in (
      λ spot. inl (ap (λ (boxes : BoxMap). finite.get boxes spot) empty ∙ finite.get-empty spot_cmp spot),
      λ level below. absurd (omega (arith, below)),
    )
