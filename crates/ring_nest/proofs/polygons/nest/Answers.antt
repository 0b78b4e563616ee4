use Rattle.std.proofs.Common.{arith}
use Rattle.ring_nest.proofs.Outers.{filled_is}
use Rattle.ring_nest.proofs.polygons.nest.Goals as goal

pub returns-in-None : goal.returns-in-None
returns-in-None c = grind (arith, filled_is)
