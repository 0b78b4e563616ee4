use Rattle.std.proofs.Common.{◌≡◌, ◌++◌, rules, ap, ◌∙◌}
use Rattle.std.specs.Prelude.{map}
use Rattle.std.specs.BTreeMap.{IsOrdered}
use Rattle.std.specs.Map.Iter.{deref_pair}
use Rattle.std.proofs.lemmas.Map.Iter.{iter_end}
use Rattle.osm_base.proofs.SpotOrder.{tree_cmp}
use Rattle.delta_feed.specs.Text.{entry_lines, ended_lines}
use Rattle.delta_feed.proofs.Trees.{changes_told}
use Rattle.delta_feed.proofs.writing.push_told.Goals as goal

pub returns : goal.returns
returns c =
    let all : map deref_pair c.loop-spot.yielded ≡ c.args.told.now.entries = search (rules, iter_end) in
    let ordered : IsOrdered tree_cmp c.args.told.now = search rules in
    record {
      lines = c.loop-spot.invariant ∙ ap (λ own. c.args.out.now.items ++ ended_lines (entry_lines own))
          (changes_told c.loop-spot.yielded c.args.told.now all ordered);
    }
