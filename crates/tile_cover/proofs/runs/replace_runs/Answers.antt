use Rattle.std.proofs.Common.{◌∙◌, ap}
use Rattle.std.specs.List.{splice}
use Rattle.std.specs.Vec.Iter.{into_iter_items, into_iter_steps}
use Rattle.tile_cover.proofs.Drained.{all_drained}
use Rattle.tile_cover.proofs.runs.replace_runs.Goals as goal

-- the runs that were put in are those of the other list
pub returns-clause-ok : goal.returns-clause-ok
returns-clause-ok c =
    let put = c.in_ok-splice.ensures.items in
    put.4 ∙ ap (splice c.args.runs.now.items c.args.from c.args.to)
    (all_drained into_iter_steps into_iter_items put.0 put.1 put.2.3 put.3 ∙ put.2.0)
