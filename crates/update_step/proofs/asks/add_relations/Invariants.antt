use Rattle.std.proofs.Common.{◌≡◌, ◌++◌, take}
use Rattle.update_step.specs.Gather.{relation_asks}
use Rattle.update_step.proofs.asks.add_relations.Given as goal

-- those so far
abbrev pub invariant-loop-id : goal.invariant-loop-id
invariant-loop-id l = l.asks.items ≡ l.initial.asks.items ++ relation_asks (take l.id-index l.ids)
