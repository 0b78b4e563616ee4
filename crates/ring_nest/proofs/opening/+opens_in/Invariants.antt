use Rattle.std.proofs.Common.{◌-◌}
use Rattle.ring_nest.proofs.opening.+opens_in.Given as goal

abbrev pub decreases-opens_in : goal.decreases-opens_in
decreases-opens_in l = l.band.high - l.band.low
