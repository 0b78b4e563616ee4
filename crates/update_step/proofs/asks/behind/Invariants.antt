use Rattle.std.proofs.Common.{◌≡◌, take}
use Rattle.std.specs.List.{flat_map}
use Rattle.update_step.specs.Gather.{gathered_in, known_in}
use Rattle.update_step.specs.Rounds.{asks_behind}
use Rattle.update_step.proofs.asks.behind.Given as goal

-- those so far
abbrev pub invariant-loop-ask : goal.invariant-loop-ask
invariant-loop-ask l = l.more.items ≡ flat_map (asks_behind (known_in (gathered_in l.answers))) (take l.ask-index l.asks)
