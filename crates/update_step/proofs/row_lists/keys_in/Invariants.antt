use Rattle.std.proofs.Common.{◌≡◌, take}
use Rattle.geom_workers.specs.Keys.{keys_of}
use Rattle.update_step.proofs.row_lists.keys_in.Given as goal

-- the first keys
abbrev pub invariant-loop-number : goal.invariant-loop-number
invariant-loop-number l = l.keys.items ≡ take l.number (keys_of l.pending.set)
