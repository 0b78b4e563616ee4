use Rattle.std.proofs.Common.{◌≡◌, ◌++◌, take}
use Rattle.delta_feed.specs.Text.{entry_lines, ended_lines}
use Rattle.delta_feed.specs.Writing.{lent_entries}
use Rattle.delta_feed.proofs.rows.push_entries.Given as goal

-- the lines of the rows that came
abbrev pub invariant-loop-spot : goal.invariant-loop-spot
invariant-loop-spot l = l.out.items ≡ l.fn.out.items ++ ended_lines (entry_lines (lent_entries (take l.spot-index l.entries)))
