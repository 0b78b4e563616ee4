use Rattle.std.proofs.Common.{refl}
use Rattle.ring_nest.proofs.told.is_told.Goals as goal

pub returns-then-is_latitude_own : goal.returns-then-is_latitude_own
returns-then-is_latitude_own c = λ e. record { lats = (rw c.north_of.ensures.place at c.if-is_latitude_own.ensures) refl; few = c.is_near_own.ensures e }
