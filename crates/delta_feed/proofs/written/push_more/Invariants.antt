use Rattle.std.proofs.Common.{◌≡◌, ◌++◌, length}
use Rattle.delta_feed.specs.Text.{more_lines, ended_lines}
use Rattle.delta_feed.proofs.written.push_more.Given as goal

-- what is written, and then the lines of what is left, are those of all
abbrev pub invariant-loop-rest : goal.invariant-loop-rest
invariant-loop-rest l = l.out.items ++ ended_lines (more_lines (length l.rest) l.rest) ≡ l.fn.out.items ++ ended_lines (more_lines (length l.bytes) l.bytes)

abbrev pub decreases-loop-rest : goal.decreases-loop-rest
decreases-loop-rest l = length l.rest
