use Rattle.std.proofs.Common.{◌≡◌, ◌<◌, ◌≤◌, ◌-◌, ℕ, length, true, false}
use Rattle.osm_base.specs.values.KeyOrder.{is_below}
use Rattle.update_step.specs.Named.{key_in, key_named}
use Rattle.update_step.proofs.named.place_of.Given as goal

-- the keys before `low` are below, and those from `high` on are not
abbrev pub invariant-loop-low : goal.invariant-loop-low
invariant-loop-low l = record {
  order : l.low ≤ l.high;
  within : l.high ≤ length l.entries;
  below : (k : ℕ) → k < l.low → is_below (key_in l.entries k) (key_named l.kind l.id) ≡ true;
  from : (k : ℕ) → l.high ≤ k → k < length l.entries → is_below (key_in l.entries k) (key_named l.kind l.id) ≡ false;
}

abbrev pub decreases-loop-low : goal.decreases-loop-low
decreases-loop-low l = l.high - l.low
