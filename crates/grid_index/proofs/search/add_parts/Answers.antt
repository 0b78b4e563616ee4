use Rattle.std.proofs.Common.{◌≡◌, map, rules, ◌∙◌, ap, arith}
use Rattle.std.proofs.lemmas.Map.Iter.{iter_end}
use Rattle.std.specs.Map.Iter.{deref}
use Rattle.grid_index.specs.Grid.{boxes_in, wanted}
use Rattle.grid_index.specs.Search.{passes}
use Rattle.grid_index.proofs.Walks.{one_walked, parts_covered}
use Rattle.grid_index.proofs.search.add_parts.Goals as goal

pub loop-mark-preserved : goal.loop-mark-preserved
loop-mark-preserved c =
    one_walked (passes c.args.search.exact c.args.search.asked) (boxes_in c.args.search.boxes.now) (boxes_in c.args.found.now)
    (boxes_in c.loop-mark.found) (boxes_in c.consider.new.found)
    c.args.search.table c.loop-mark.yielded c.in-Some.mark c.loop-mark.invariant c.in_ok-consider.ensures.ok

pub returns-clause-covers : goal.returns-clause-covers
returns-clause-covers c =
    let all : map deref c.loop-mark.yielded ≡ c.range-mark-items.result = search (rules, iter_end) in
    let first = ap (λ mark. mark.part) c.end_of.ensures.fields in
    let last = ap (λ mark. mark.part) c.end_of-2.ensures.fields in
    parts_covered c.args.search.marks.now (wanted (passes c.args.search.exact c.args.search.asked)
    (boxes_in c.args.search.boxes.now) c.args.search.table)
    (boxes_in c.args.found.now) (boxes_in c.loop-mark.found) c.args.search.table c.args.first c.args.last c.end_of.result c.end_of-2.result
    c.loop-mark.yielded c.loop-mark.invariant
    (all ∙ c.range-mark-items.ensures.between tt) (ap (λ mark. mark.table) c.end_of.ensures.fields) (omega (arith, first, c.requires.least))
    (ap (λ mark. mark.table) c.end_of-2.ensures.fields) (omega (arith, last))
