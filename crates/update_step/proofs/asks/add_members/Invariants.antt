use Rattle.std.proofs.Common.{◌≡◌, ◌++◌, take}
use Rattle.std.specs.List.{flat_map}
use Rattle.update_step.specs.Rounds.{member_asked}
use Rattle.update_step.proofs.asks.add_members.Given as goal

-- those so far
abbrev pub invariant-loop-member : goal.invariant-loop-member
invariant-loop-member l = l.asks.items ≡ l.initial.asks.items ++ flat_map member_asked (take l.member-index l.members)
