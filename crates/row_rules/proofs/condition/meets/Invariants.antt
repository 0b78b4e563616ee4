use Rattle.std.proofs.Common.{◌≡◌, false, drop}
use Rattle.std.specs.List.{list_all}
use Rattle.row_rules.specs.Condition.{holds}
use Rattle.row_rules.proofs.condition.meets.Given as goal

-- whether those that are left hold decides
abbrev pub invariant-loop-condition : goal.invariant-loop-condition
invariant-loop-condition l =
    list_all (holds (λ _. false) l.tags) (drop l.condition-index l.condition-items)
    ≡ list_all (holds (λ _. false) l.tags) l.selection.conditions
