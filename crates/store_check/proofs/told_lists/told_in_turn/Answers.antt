-- All objects came, each id once.
use Rattle.std.proofs.Common.{◌∙◌, ℕ, List, ap}
use Rattle.std.specs.Map.Iter.{deref_pair}
use Rattle.std.proofs.lemmas.Map.Iter.{iter_end}
use Rattle.osm_base.specs.declared.values.object.Object.{Object}
use Rattle.back_index.specs.Listed.{ids_in}
use Rattle.store_check.proofs.ToldLists.{found_each, pairs_tell, pairs_told}
use Rattle.store_check.proofs.told_lists.told_in_turn.Goals as goal

pub returns : goal.returns
returns c =
    let entries = c.args.objects.now.entries in
    let gives = c.into_iter-own-iterator.ensures.into_iter_gives in
    let end = iter_end deref_pair entries c.loop-own.yielded c.into_iter-own-iterator.result _ _ _ gives.0 c.loop-own.yielded_by c.in-None.is
    c.next.ensures.steps in
    record {
      told = λ id by.
          c.loop-own.invariant id by
          ∙ ap (λ (l : List (ℕ × Object)). pairs_tell (ids_in c.args.map) l id by) end.0
          ∙ pairs_told (ids_in c.args.map) id by entries (found_each c.args.objects.now gives.6);
    }
