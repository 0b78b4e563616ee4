use Rattle.std.proofs.Common.{◌≡◌, T, rules, ap, sym, subst, ◌∙◌, map}
use Rattle.std.specs.FinMap as finite
use Rattle.std.specs.FinMap.{is_sorted}
use Rattle.std.specs.BTreeMap.{IsOrdered}
use Rattle.std.specs.Map.Iter.{deref_pair}
use Rattle.std.proofs.lemmas.Map.Iter.{iter_end}
use Rattle.osm_base.specs.map.Spots.{spot_cmp}
use Rattle.osm_base.proofs.SpotOrder.{tree_cmp}
use Rattle.row_store.proofs.OrderLaws.{SpotRows, rising_is, tree_rises}
use Rattle.row_store.proofs.sorted.copied.Goals as goal

pub from_rising-requires : goal.from_rising-requires
from_rising-requires c =
    let tree = c.rows-spot-items.result.now in
    let all : map deref_pair c.loop-spot.yielded ≡ tree.entries = search (rules, iter_end) in
    let ordered : IsOrdered tree_cmp tree = search rules in
    record { rising = subst (λ (rows : SpotRows). T (is_sorted spot_cmp rows)) (sym (c.loop-spot.invariant ∙ all)) (tree_rises tree ordered) }

pub returns : goal.returns
returns c =
    let tree = c.rows-spot-items.result.now in
    let all : map deref_pair c.loop-spot.yielded ≡ tree.entries = search (rules, iter_end) in
    let ordered : IsOrdered tree_cmp tree = search rules in
    record {
      same = c.from_rising.ensures.same ∙ ap (λ (rows : SpotRows). finite.from_sorted {R = spot_cmp} rows) (c.loop-spot.invariant ∙ all)
          ∙ rising_is tree.entries (tree_rises tree ordered) ∙ c.rows-spot-items.ensures.rows;
    }
