use Rattle.std.proofs.Common.{take}
use Rattle.std.specs.List.{list_any}
use Rattle.dep_closure.specs.Adds.{AddsDue}
use Rattle.dep_closure.specs.Asks.{HasAsked}
use Rattle.dep_closure.specs.Questions.{of_members}
use Rattle.dep_closure.specs.Relations.{makes_relation}
use Rattle.dep_closure.proofs.relations.add_named.Given as goal

-- the relations that the entries so far make due, by an index that stays
abbrev pub invariant-loop-entry : goal.invariant-loop-entry
invariant-loop-entry g l = record {
  due : AddsDue (g.B.Back.knows l.initial.back)
      (λ index id. list_any (makes_relation index id) (take l.entry-index l.entries)) l.initial.relations.items l.relations.items;
  asks : HasAsked g.B.Back (of_members (take l.entry-index l.entries)) l.initial.back l.back;
}
