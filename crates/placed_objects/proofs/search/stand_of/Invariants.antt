use Rattle.std.proofs.Common.{◌<◌, ◌≤◌, ◌-◌, ℕ, length, get_or}
use Rattle.placed_objects.proofs.search.stand_of.Given as goal

-- the ids before `low` are less, and those from `high` on are greater
abbrev pub invariant-loop-low : goal.invariant-loop-low
invariant-loop-low l = record {
  order : l.low ≤ l.high;
  within : l.high ≤ length l.ids;
  less : (place : ℕ) → place < l.low → get_or l.ids place 0 < l.id;
  greater : (place : ℕ) → l.high ≤ place → place < length l.ids → l.id < get_or l.ids place 0;
}

abbrev pub decreases-loop-low : goal.decreases-loop-low
decreases-loop-low l = l.high - l.low
