use Rattle.std.proofs.Common.{◌≡◌, ◌-◌, ◌+◌, ℕ, [], length, slice_index_or}
use Rattle.bucket_store.proofs.places.reach.Given as goal

-- the pages that are there, and unused ones behind them
abbrev pub invariant-loop-alloc : goal.invariant-loop-alloc
invariant-loop-alloc l = (k : ℕ) → slice_index_or l.pages.items k [] ≡ slice_index_or l.initial.pages.items k []

abbrev pub decreases-loop-alloc : goal.decreases-loop-alloc
decreases-loop-alloc l = l.page + 1 - length l.pages.items
