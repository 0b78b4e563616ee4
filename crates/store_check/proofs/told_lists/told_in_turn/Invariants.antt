use Rattle.std.proofs.Common.{◌≡◌, ℕ, map}
use Rattle.std.specs.Map.Iter.{deref_pair}
use Rattle.back_index.specs.Filling.{mentions_tell}
use Rattle.back_index.specs.Listed.{ids_in}
use Rattle.store_check.proofs.ToldLists.{pairs_tell}
use Rattle.store_check.proofs.told_lists.told_in_turn.Given as goal

-- what the objects so far list
abbrev pub invariant-loop-own : goal.invariant-loop-own
invariant-loop-own l = (id by : ℕ) → mentions_tell l.mentions.items id by ≡ pairs_tell (ids_in l.map) (map deref_pair l.yielded) id by
