use Rattle.std.proofs.Common.{◌≡◌, take}
use Rattle.run_promise.specs.Courses.{tiles_in}
use Rattle.updater.proofs.summary.count_tiles.Given as goal

-- the tiles of the runs so far
abbrev pub invariant-loop-run : goal.invariant-loop-run
invariant-loop-run l = l.tiles ≡ tiles_in (take l.run-index l.runs)
