use Rattle.ring_nest.proofs.Ordered.{all_in_order, count_in_order}
use Rattle.ring_nest.proofs.row.band_row.Goals as goal

pub are_west-is_ordered-requires : goal.are_west-is_ordered-requires
are_west-is_ordered-requires c = record {
  edges = rw c.deref.ensures.value (all_in_order c.args.band.low c.args.band.high c.args.edges.items c.sort_unstable_by_key.new.self.items
      c.sort_unstable_by_key.ensures.permutation c.requires.edges);
}

pub returns-clause-row : goal.returns-clause-row
returns-clause-row c = record {
  spans = all_in_order c.args.band.low c.args.band.high c.args.edges.items c.sort_unstable_by_key.new.self.items c.sort_unstable_by_key.ensures.permutation
      c.requires.edges;
  in_order = λ e. rw c.deref.ensures.value at (c.are_west-is_ordered.ensures.west e);
}

pub returns-clause-count : goal.returns-clause-count
returns-clause-count c north east =
    count_in_order north east c.args.edges.items c.sort_unstable_by_key.new.self.items c.sort_unstable_by_key.ensures.permutation
