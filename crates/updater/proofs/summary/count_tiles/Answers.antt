use Rattle.std.proofs.Common.{arith}
use Rattle.std.proofs.lemmas.List.Sums.{sum_by_more}
use Rattle.tile_cover.specs.Runs.{IsRun}
use Rattle.tile_cover.specs.declared.runs.Run.{Run}
use Rattle.run_promise.specs.Courses.{columns_of}
use Rattle.updater.proofs.TileCounts.{all_at, few_so_far}
use Rattle.updater.proofs.summary.count_tiles.Goals as goal

pub columns_of-tiles-requires : goal.columns_of-tiles-requires
columns_of-tiles-requires c =
    let none : Run = record { zoom = 0; y = 0; first = 0; last = 0 } in
    record { run = all_at IsRun c.args.runs.now c.loop-run.run-index none c.requires.set.each c.loop-run-test.true }

pub overflow_add-tiles : goal.overflow_add-tiles
overflow_add-tiles c =
    let few = few_so_far c.args.runs.now c.loop-run.run-index c.requires.set in
    omega (arith, c.loop-run.invariant, few, c.columns_of-tiles.ensures.few)

pub loop-run-preserved : goal.loop-run-preserved
loop-run-preserved c =
    let none : Run = record { zoom = 0; y = 0; first = 0; last = 0 } in
    let more = sum_by_more columns_of c.args.runs.now c.loop-run.run-index none c.loop-run-test.true in
    omega (arith, c.loop-run.invariant, more, c.columns_of-tiles.ensures.columns)
