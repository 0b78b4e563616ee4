use Rattle.std.proofs.Common.{◌≡◌, ℕ, take}
use Rattle.back_index.specs.Filling.{ByIds, mentions_tell}
use Rattle.back_index.specs.Listed.{map_told}
use Rattle.back_index.proofs.mentions.all_told.Given as goal

-- what the entries so far tell
abbrev pub invariant-loop-entry : goal.invariant-loop-entry
invariant-loop-entry l = record {
  told : (id by : ℕ) → mentions_tell l.mentions.items id by ≡ map_told l.map (take l.entry-index l.entries) id by;
  ids : ByIds (mentions_tell l.mentions.items);
}
