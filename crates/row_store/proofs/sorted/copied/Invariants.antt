use Rattle.std.proofs.Common.{◌≡◌, map}
use Rattle.std.specs.Map.Iter.{deref_pair}
use Rattle.row_store.proofs.sorted.copied.Given as goal

-- the rows that came
abbrev pub invariant-loop-spot : goal.invariant-loop-spot
invariant-loop-spot l = l.rows.items ≡ map deref_pair l.yielded
