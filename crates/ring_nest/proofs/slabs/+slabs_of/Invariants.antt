use Rattle.std.proofs.Common.{◌-◌}
use Rattle.ring_nest.proofs.slabs.+slabs_of.Given as goal

abbrev pub decreases-slabs_of : goal.decreases-slabs_of
decreases-slabs_of l = l.band.high - l.band.low
