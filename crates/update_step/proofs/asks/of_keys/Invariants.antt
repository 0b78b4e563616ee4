use Rattle.std.proofs.Common.{◌≡◌, map, take}
use Rattle.update_step.specs.Gather.{OfKey}
use Rattle.update_step.proofs.asks.of_keys.Given as goal

-- those so far
abbrev pub invariant-loop-key : goal.invariant-loop-key
invariant-loop-key l = l.asks.items ≡ map OfKey (take l.key-index l.keys)
