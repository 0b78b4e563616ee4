use Rattle.std.proofs.Common.{take}
use Rattle.dep_closure.specs.Adds.{AddsDue}
use Rattle.dep_closure.specs.Asks.{HasAsked}
use Rattle.dep_closure.specs.Questions.{of_ways}
use Rattle.dep_closure.specs.Relations.{is_along}
use Rattle.dep_closure.proofs.relations.add_along.Given as goal

-- the relations that have one of the ways so far, by an index that stays
abbrev pub invariant-loop-way : goal.invariant-loop-way
invariant-loop-way g l = record {
  due : AddsDue (g.B.Back.knows l.initial.back)
      (λ index. is_along index (take l.way-index l.ways)) l.initial.relations.items l.relations.items;
  asks : HasAsked g.B.Back (of_ways (take l.way-index l.ways)) l.initial.back l.back;
}
