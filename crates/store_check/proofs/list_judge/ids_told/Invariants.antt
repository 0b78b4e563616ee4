use Rattle.std.proofs.Common.{◌≡◌, ◌≤◌, ◌-◌, ℕ, length, take}
use Rattle.osm_base.specs.values.Ids.{has}
use Rattle.back_index.specs.Filling.{mentions_tell}
use Rattle.store_check.proofs.list_judge.ids_told.Given as goal

-- those that were told so far
abbrev pub invariant-loop-at : goal.invariant-loop-at
invariant-loop-at l = record {
  within : l.at ≤ length l.mentions.all.now;
  behind : l.initial.at ≤ l.at;
  told : (by : ℕ) → has l.ids.items by ≡ mentions_tell (take l.at l.mentions.all.now) l.id by;
}

abbrev pub decreases-loop-at : goal.decreases-loop-at
decreases-loop-at l = length l.mentions.all.now - l.at
