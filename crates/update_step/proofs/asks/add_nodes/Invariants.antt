use Rattle.std.proofs.Common.{◌≡◌, ◌++◌, map, take}
use Rattle.update_step.specs.Gather.{AtNode}
use Rattle.update_step.proofs.asks.add_nodes.Given as goal

-- those so far
abbrev pub invariant-loop-id : goal.invariant-loop-id
invariant-loop-id l = l.asks.items ≡ l.initial.asks.items ++ map AtNode (take l.id-index l.ids)
