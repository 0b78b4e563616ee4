use Rattle.std.proofs.Common.{◌≡◌, ◌-◌, ◌++◌}
use Rattle.demo_map.specs.Demo.{members_of}
use Rattle.demo_map.proofs.entries.members_of.Given as goal

-- the members so far, and then those that are left, are all of them
abbrev pub invariant-loop-id : goal.invariant-loop-id
invariant-loop-id l = l.members ++ members_of l.id (l.id-end - l.id) ≡ members_of l.fn.first l.fn.count
