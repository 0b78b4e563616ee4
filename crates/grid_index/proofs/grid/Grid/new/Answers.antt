use Rattle.std.proofs.Common.{◌≡◌, ◌∙◌, ap, sym, subst, rules}
use Rattle.std.specs.FinMap as finite
use Rattle.osm_base.specs.map.Spots.{spot_cmp}
use Rattle.grid_index.specs.Grid.{BoxMap, boxes_in}
use Rattle.grid_index.specs.Marks.{IsMarked}
use Rattle.grid_index.proofs.grid.Grid.new.Goals as goal

pub invariant_of-result : goal.invariant_of-result
invariant_of-result c = λ at.
    let empty : boxes_in c.new.result ≡ finite.empty = search rules in
    subst (IsMarked c.new-2.result.keys at) (sym (ap (λ (boxes : BoxMap). finite.get boxes at) empty ∙ finite.get-empty spot_cmp at)) tt
