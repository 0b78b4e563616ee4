use Rattle.std.proofs.Common.{◌≤◌, ap, arith}
use Rattle.std.proofs.lemmas.Bool.Decides.{nat_tests}
use Rattle.ring_nest.specs.Edge.{EdgeOf}
use Rattle.ring_nest.specs.Edges.{edge_share, own_share}
use Rattle.ring_nest.proofs.Beside.{west_one_high, west_other_high}
use Rattle.ring_nest.proofs.edges.is_west_above.Goals as goal

pub returns-then-one-other : goal.returns-then-one-other
returns-then-one-other c = record {
  west = λ e.
      let less : c.own_share.result ≤ c.edge_share.result = grind (arith, nat_tests) in
      let own : own_share c.args.one.now.at_high c.args.other.now ≤ edge_share c.args.one.now.high c.args.other.now =
      rw (c.own_share.ensures, c.edge_share.ensures, ap (λ (edge : EdgeOf). edge.at_high) c.one.view_is, ap (λ (edge : EdgeOf). edge.high) c.one.view_is) at less in
      west_one_high c.args.one.now c.args.other.now (omega (arith, c.if-one-other.true, ap (λ (edge : EdgeOf). edge.high) c.one.view_is, ap (λ (edge : EdgeOf). edge.high) c.other.view_is)) own;
}

pub returns-else-one-other : goal.returns-else-one-other
returns-else-one-other c = record {
  west = λ e.
      let less : c.edge_share-else-one-other.result ≤ c.own_share-else-one-other.result = grind (arith, nat_tests) in
      let own : edge_share c.args.other.now.high c.args.one.now ≤ own_share c.args.other.now.at_high c.args.one.now =
      rw (c.own_share-else-one-other.ensures, c.edge_share-else-one-other.ensures, ap (λ (edge : EdgeOf). edge.at_high) c.other.view_is, ap (λ (edge : EdgeOf). edge.high) c.other.view_is) at less in
      west_other_high c.args.one.now c.args.other.now (omega (arith, c.if-one-other.false, ap (λ (edge : EdgeOf). edge.high) c.one.view_is, ap (λ (edge : EdgeOf). edge.high) c.other.view_is)) own;
}
