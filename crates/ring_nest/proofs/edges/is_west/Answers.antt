use Rattle.ring_nest.proofs.Beside.{west_is}
use Rattle.ring_nest.proofs.edges.is_west.Goals as goal

pub returns-then-is_west_below : goal.returns-then-is_west_below
returns-then-is_west_below c = record {
  west = λ e. west_is c.args.one.now c.args.other.now (c.is_west_below.ensures.west c.if-is_west_below.true) (c.is_west_above.ensures.west e);
}
