use Rattle.std.proofs.Common.{◌≡◌}
use Rattle.delta_feed.proofs.rows.tree_entries.Given as goal

-- those that came
abbrev pub invariant-loop-spot : goal.invariant-loop-spot
invariant-loop-spot l = l.entries.items ≡ l.yielded
