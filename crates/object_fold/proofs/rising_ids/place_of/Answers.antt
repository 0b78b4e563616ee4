use Rattle.object_fold.proofs.SortedIds.{search_gap}
use Rattle.object_fold.proofs.rising_ids.place_of.Goals as goal

pub returns-clause-err : goal.returns-clause-err
returns-clause-err c = search_gap c.args.ids.now c.args.id c.binary_search.result c.requires c.binary_search.ensures.position
