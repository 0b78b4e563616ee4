use Rattle.std.proofs.Common.{◌≡◌, ◌&&◌, ◌||◌, ℕ, nat_eq, take}
use Rattle.osm_base.specs.values.Ids.{has}
use Rattle.back_index.specs.Filling.{mentions_tell}
use Rattle.back_index.proofs.mentions.add_all.Given as goal

-- the ids so far are told
abbrev pub invariant-loop-id : goal.invariant-loop-id
invariant-loop-id l =
    (id by : ℕ) → mentions_tell l.mentions.items id by
    ≡ (mentions_tell l.initial.mentions.items id by || (has (take l.id-index l.ids) id && nat_eq l.own by))
