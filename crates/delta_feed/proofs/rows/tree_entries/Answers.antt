use Rattle.std.proofs.Common.{◌≡◌, rules, ap, ◌∙◌}
use Rattle.std.specs.Prelude.{map}
use Rattle.std.specs.BTreeMap.{IsOrdered}
use Rattle.std.specs.Map.Iter.{deref_pair}
use Rattle.std.proofs.lemmas.Map.Iter.{iter_end}
use Rattle.osm_base.proofs.SpotOrder.{tree_cmp}
use Rattle.delta_feed.specs.Writing.{lent_entries}
use Rattle.delta_feed.proofs.Trees.{rows_told}
use Rattle.delta_feed.proofs.rows.tree_entries.Goals as goal

pub returns : goal.returns
returns c =
    let all : map deref_pair c.loop-spot.yielded ≡ c.args.rows.now.entries = search (rules, iter_end) in
    let ordered : IsOrdered tree_cmp c.args.rows.now = search rules in
    record {
      entries = ap lent_entries c.loop-spot.invariant ∙ rows_told c.loop-spot.yielded c.args.rows.now all ordered;
    }
