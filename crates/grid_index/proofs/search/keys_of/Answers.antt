use Rattle.std.proofs.Common.{◌≡◌, map, rules, ◌∙◌}
use Rattle.std.proofs.lemmas.Map.Iter.{iter_end}
use Rattle.std.specs.Map.Iter.{deref_pair}
use Rattle.grid_index.proofs.Trees.{keys_all}
use Rattle.grid_index.proofs.search.keys_of.Goals as goal

pub returns : goal.returns
returns c =
    let all : map deref_pair c.loop-spot.yielded ≡ c.iter-spot-items.result = search (rules, iter_end) in
    record {
      keys = c.loop-spot.invariant ∙ keys_all c.args.found.now c.loop-spot.yielded
          (all ∙ c.iter-spot-items.ensures.rest) c.iter-spot-items.ensures.ordered;
    }
