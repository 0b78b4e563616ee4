use Rattle.std.proofs.Common.{arith}
use Rattle.ring_nest.proofs.Lats.{count_up_to}
use Rattle.ring_nest.proofs.latitudes.count_latitude.Goals as goal

pub overflow_sub-result : goal.overflow_sub-result
overflow_sub-result c = omega (arith, count_up_to c.args.north c.args.lats.now, c.count_up_to.ensures, c.count_south.ensures)

pub returns : goal.returns
returns c = omega (arith, count_up_to c.args.north c.args.lats.now, c.count_up_to.ensures, c.count_south.ensures)
