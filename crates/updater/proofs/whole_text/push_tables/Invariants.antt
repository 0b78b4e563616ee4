use Rattle.std.proofs.Common.{◌≡◌, ◌++◌}
use Rattle.std.specs.Prelude.{flat_map}
use Rattle.std.specs.List.{range_with_len}
use Rattle.run_promise.specs.Courses.{named_text}
use Rattle.updater.proofs.whole_text.push_tables.Given as goal

-- the texts of the tables so far
abbrev pub invariant-loop-table : goal.invariant-loop-table
invariant-loop-table l = l.out.items ≡ l.fn.out.items ++ flat_map (named_text l.style l.tables) (range_with_len 0 l.table)
