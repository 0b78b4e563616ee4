use Rattle.std.proofs.Common.{[]}
use Rattle.geom_workers.proofs.Placing.{Placed}
use Rattle.geom_workers.proofs.tickets.by_ticket.Given as goal

-- what is not left to be placed stands where its ticket says
abbrev pub invariant-placing : goal.invariant-placing
invariant-placing l = Placed [] l.count l.tickets l.fn.rows l.rows.items l.all.items

abbrev pub decreases-placing : goal.decreases-placing
decreases-placing l = goal.left-placing l
