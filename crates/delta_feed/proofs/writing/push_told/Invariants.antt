use Rattle.std.proofs.Common.{◌≡◌, ◌++◌}
use Rattle.delta_feed.specs.Text.{entry_lines, ended_lines}
use Rattle.delta_feed.proofs.Trees.{came_changes}
use Rattle.delta_feed.proofs.writing.push_told.Given as goal

-- the lines of the changes that came
abbrev pub invariant-loop-spot : goal.invariant-loop-spot
invariant-loop-spot l = l.out.items ≡ l.fn.out.items ++ ended_lines (entry_lines (came_changes l.yielded))
