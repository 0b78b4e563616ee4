use Rattle.std.proofs.Common.{◌≡◌, true, drop}
use Rattle.std.specs.List.{list_all}
use Rattle.row_rules.specs.Condition.{holds}
use Rattle.row_map.proofs.wanted.all_may_hold.Given as goal

-- whether those that are left may hold decides
abbrev pub invariant-loop-condition : goal.invariant-loop-condition
invariant-loop-condition l = list_all (holds (λ _. true) l.tags) (drop l.condition-index l.conditions)
    ≡ list_all (holds (λ _. true) l.tags) l.conditions
