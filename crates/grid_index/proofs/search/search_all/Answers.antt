use Rattle.grid_index.specs.Grid.{boxes_in}
use Rattle.grid_index.proofs.Near.{whole}
use Rattle.grid_index.proofs.search.search_all.Goals as goal

pub returns : goal.returns
returns c = record {
  found = whole c.args.search.exact c.args.search.asked c.args.search.marks.now.keys (boxes_in c.args.search.boxes.now)
      (boxes_in c.in_ok-found.found) c.args.search.table c.requires.marked
      c.in_ok-found.ensures.part c.in_ok-found.ensures.covers;
}
