use Rattle.std.proofs.Common.{take}
use Rattle.std.specs.List.{AllByRecursion}
use Rattle.osm_base.specs.values.Key.{IsId}
use Rattle.value_bytes.proofs.objects.are_ids.Given as goal

-- the numbers so far are ids
abbrev pub invariant-loop-number : goal.invariant-loop-number
invariant-loop-number l = AllByRecursion IsId (take l.number-index l.numbers)
