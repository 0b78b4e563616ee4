use Rattle.std.proofs.Common.{take}
use Rattle.std.specs.List.{list_any}
use Rattle.dep_closure.specs.Adds.{Adds}
use Rattle.dep_closure.specs.Selecting.{selects_again}
use Rattle.dep_closure.proofs.selecting.add_selected.Given as goal

-- what the entries so far select
abbrev pub invariant-loop-entry : goal.invariant-loop-entry
invariant-loop-entry l = Adds (λ id. list_any (selects_again l.style l.old l.kind id) (take l.entry-index l.entries)) l.initial.ids.items
    l.ids.items
