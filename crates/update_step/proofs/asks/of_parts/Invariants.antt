use Rattle.std.proofs.Common.{◌≡◌, take}
use Rattle.std.specs.List.{flat_map}
use Rattle.update_step.specs.Gather.{gathered_in, known_in}
use Rattle.update_step.specs.Rounds.{parts_of}
use Rattle.update_step.proofs.asks.of_parts.Given as goal

-- those so far
abbrev pub invariant-loop-key : goal.invariant-loop-key
invariant-loop-key l = l.asks.items ≡ flat_map (parts_of l.style l.reaches (known_in (gathered_in l.answers))) (take l.key-index l.keys)
