use Rattle.std.proofs.Common.{◌≡◌, ◌-◌, ◌+◌, ℕ, length}
use Rattle.store_check.specs.Places.{AreOwn, joined_lists}
use Rattle.store_check.proofs.places.reach.Given as goal

-- the lists that are there, and empty ones behind them
abbrev pub invariant-loop-alloc : goal.invariant-loop-alloc
invariant-loop-alloc l = record {
  same : joined_lists l.lists.items ≡ joined_lists l.initial.lists.items;
  own : (count : ℕ) → AreOwn count 0 l.initial.lists.items → AreOwn count 0 l.lists.items;
}

abbrev pub decreases-loop-alloc : goal.decreases-loop-alloc
decreases-loop-alloc l = l.at + 1 - length l.lists.items
