use Rattle.std.proofs.Common.{◌-◌, length, arith}
use Rattle.due_tiles.proofs.Splicing.{first_is, spliced}
use Rattle.due_tiles.proofs.joining.union.Goals as goal

pub replace-requires-clause-set : goal.replace-requires-clause-set
replace-requires-clause-set c =
    let whole = spliced c.of-all.result.runs.now c.of-others.result.runs.now c.in_ok-both.both c.count_before-from.result
    c.count_reached-count.result (length c.of-others.result.runs.now - 1) c.first_run.result.0 c.last_run-last.result
    c.of-all.result.set c.of-others.result.set c.in_ok-both.ensures.set
    (rw (c.front-between.ensures.front, c.behind-rest.ensures.behind) at c.in_ok-both.ensures.tiles) (omega arith)
    (first_is c.of-others.result.runs.now c.first_run.result.0 _ c.first_run.ensures.parts) c.last_run-last.ensures.last
    c.count_before-from.ensures.before (rw c.behind-rest.ensures.behind at c.count_reached-count.ensures.behind) in
    rw (← c.of-all.ensures.all) whole.set

pub returns-clause-ok : goal.returns-clause-ok
returns-clause-ok c =
    let whole = spliced c.of-all.result.runs.now c.of-others.result.runs.now c.in_ok-both.both c.count_before-from.result
    c.count_reached-count.result (length c.of-others.result.runs.now - 1) c.first_run.result.0 c.last_run-last.result
    c.of-all.result.set c.of-others.result.set c.in_ok-both.ensures.set
    (rw (c.front-between.ensures.front, c.behind-rest.ensures.behind) at c.in_ok-both.ensures.tiles) (omega arith)
    (first_is c.of-others.result.runs.now c.first_run.result.0 _ c.first_run.ensures.parts) c.last_run-last.ensures.last
    c.count_before-from.ensures.before (rw c.behind-rest.ensures.behind at c.count_reached-count.ensures.behind) in
    λ zoom x y. rw (c.in_ok-replace.ensures.ok, ← c.of-all.ensures.all, ← c.of-others.ensures.all) (whole.tiles zoom x y)
