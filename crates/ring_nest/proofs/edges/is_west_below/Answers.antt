use Rattle.std.proofs.Common.{◌≤◌, ap, arith}
use Rattle.std.proofs.lemmas.Bool.Decides.{nat_tests}
use Rattle.ring_nest.specs.Edge.{EdgeOf}
use Rattle.ring_nest.specs.Edges.{edge_share, own_share}
use Rattle.ring_nest.proofs.Beside.{west_one_low, west_other_low}
use Rattle.ring_nest.proofs.edges.is_west_below.Goals as goal

pub returns-then-other-one : goal.returns-then-other-one
returns-then-other-one c = record {
  west = λ e.
      let less : c.own_share.result ≤ c.edge_share.result = grind (arith, nat_tests) in
      let own : own_share c.args.one.now.at_low c.args.other.now ≤ edge_share c.args.one.now.low c.args.other.now =
      rw (c.own_share.ensures, c.edge_share.ensures, ap (λ (edge : EdgeOf). edge.at_low) c.one.view_is, ap (λ (edge : EdgeOf). edge.low) c.one.view_is) at less in
      west_one_low c.args.one.now c.args.other.now (omega (arith, c.if-other-one.true, ap (λ (edge : EdgeOf). edge.low) c.one.view_is, ap (λ (edge : EdgeOf). edge.low) c.other.view_is)) own;
}

pub returns-else-other-one : goal.returns-else-other-one
returns-else-other-one c = record {
  west = λ e.
      let less : c.edge_share-else-other-one.result ≤ c.own_share-else-other-one.result = grind (arith, nat_tests) in
      let own : edge_share c.args.other.now.low c.args.one.now ≤ own_share c.args.other.now.at_low c.args.one.now =
      rw (c.own_share-else-other-one.ensures, c.edge_share-else-other-one.ensures, ap (λ (edge : EdgeOf). edge.at_low) c.other.view_is, ap (λ (edge : EdgeOf). edge.low) c.other.view_is) at less in
      west_other_low c.args.one.now c.args.other.now (omega (arith, c.if-other-one.false, ap (λ (edge : EdgeOf). edge.low) c.one.view_is, ap (λ (edge : EdgeOf). edge.low) c.other.view_is)) own;
}
