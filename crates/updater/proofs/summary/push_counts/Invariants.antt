use Rattle.std.proofs.Common.{◌≡◌, ◌++◌}
use Rattle.std.specs.Prelude.{flat_map}
use Rattle.std.specs.List.{range_with_len}
use Rattle.run_promise.specs.Courses.{count_line}
use Rattle.updater.proofs.summary.push_counts.Given as goal

-- the lines of the tables so far
abbrev pub invariant-loop-table : goal.invariant-loop-table
invariant-loop-table l = l.out.items ≡ l.fn.out.items ++ flat_map (count_line l.definitions l.tables) (range_with_len 0 l.table)
